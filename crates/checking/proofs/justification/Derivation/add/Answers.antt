use Rattle.std.proofs.Common.{arith}
use Rattle.std.proofs.lemmas.Grind.{common_steps}
use Rattle.sets.proofs.Counts.{counting}
use Rattle.checking.proofs.Rows.{counted_more}
use Rattle.checking.proofs.justification.Derivation.add.Goals as goal

-- there is room for the entry
pub unwrap-requires : goal.unwrap-requires
unwrap-requires c =
    let more = counted_more c.args.self.now c.args.entry.part c.with-self.result c.requires.known c.requires.new c.with-self.ensures in
    grind (arith, common_steps, counting.most c.with-self.result)

pub invariant_of-self : goal.invariant_of-self
invariant_of-self c =
    let more = counted_more c.args.self.now c.args.entry.part c.with-self.result c.requires.known c.requires.new c.with-self.ensures in
    record { counted = grind (arith, common_steps, counting.most c.with-self.result) }

pub returns : goal.returns
returns c =
    let more = counted_more c.args.self.now c.args.entry.part c.with-self.result c.requires.known c.requires.new c.with-self.ensures in
    record { reached = λ p. grind arith; entries = grind (arith, counting.most c.with-self.result) }
