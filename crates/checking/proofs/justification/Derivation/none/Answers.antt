use Rattle.std.proofs.Common.{arith}
use Rattle.sets.proofs.Counts.{counting}
use Rattle.checking.proofs.justification.Derivation.none.Goals as goal

pub invariant_of-result : goal.invariant_of-result
invariant_of-result c = let zero = counting.none c.none.result c.none.ensures in record { counted = grind arith }
