use Rattle.lists.specs.Held.{held}
use Rattle.checking.proofs.Noting.{Sofar}
use Rattle.checking.proofs.case.Case.next_round.Given as goal

abbrev pub invariant-loop-i : goal.invariant-loop-i
invariant-loop-i l = Sofar (held l.self.rules.now) l.self.outfit l.below l.i l.layer.parts l.layer.lowest
