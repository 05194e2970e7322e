use Rattle.std.proofs.Common.{arith}
use Rattle.std.proofs.lemmas.Nat.{or_lt}
use Rattle.std.proofs.lemmas.Nat.Bits.{bit_at_or}
use Rattle.sets.specs.Width.{how_many}
use Rattle.sets.proofs.parts.Parts.union.Goals as goal

pub invariant_of-result : goal.invariant_of-result
invariant_of-result c = record { small = or_lt how_many _ _ c.args.self.small c.args.other.small }

pub returns : goal.returns
returns c p = grind (arith, bit_at_or)
