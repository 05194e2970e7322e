use Rattle.std.proofs.Common.{arith}
use Rattle.sets.proofs.Counts.{counting}
use Rattle.checking.proofs.rule.Rule.blank.Goals as goal

pub invariant_of-result : goal.invariant_of-result
invariant_of-result c = let few = counting.none c.none-none.result c.none-none.ensures in record { suits = grind arith }
