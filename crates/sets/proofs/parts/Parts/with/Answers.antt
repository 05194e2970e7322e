use Rattle.std.proofs.Common.{mod-lt, arith, pow_pos}
use Rattle.std.proofs.lemmas.Nat.{or_lt, one_shl}
use Rattle.sets.specs.Width.{how_many}
use Rattle.sets.proofs.Sets.{holds_more}
use Rattle.sets.proofs.parts.Parts.with.Goals as goal

pub invariant_of-result : goal.invariant_of-result
invariant_of-result c = record { small = or_lt how_many _ _ c.args.self.small (mod-lt _ (pow_pos how_many)) }

pub returns : goal.returns
returns c p = rw (one_shl c.args.part how_many c.if-part-ge-PARTS.false) (grind (arith, holds_more))
