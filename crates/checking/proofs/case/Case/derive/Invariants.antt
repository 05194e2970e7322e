use Rattle.std.proofs.Common.{◌≡◌, ℕ, suc}
use Rattle.lists.specs.Held.{held}
use Rattle.checking.proofs.Turns.{Turned}
use Rattle.checking.proofs.case.Case.derive.Given as goal

abbrev pub invariant-loop-round : goal.invariant-loop-round
invariant-loop-round l = (k : ℕ) × (l.round ≡ suc k) × Turned (held l.self.rules.now) l.self.outfit k l.done
