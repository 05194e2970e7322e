use Rattle.std.proofs.Common.{◌≡◌, ℕ, ◌<◌, Some}
use Rattle.std.specs.List.{slice_get}
use Rattle.lists.specs.Held.{held}
use Rattle.checking.specs.declared.rule.Rule.{Rule}
use Rattle.checking.specs.Validity.{Kept}
use Rattle.checking.proofs.case.Case.keeps.Given as goal

abbrev pub invariant-loop-i : goal.invariant-loop-i
invariant-loop-i l = (j : ℕ) (s : Rule) → j < l.i → slice_get (held l.self.rules.now) j ≡ Some s → Kept s l.self.outfit
