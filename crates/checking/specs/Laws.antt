-- What the definitions are for: the laws that the judge stands on. Assumes nothing.
use Rattle.std.specs.Prelude.{◌≡◌, ℕ, ◌≤◌, ◌↔◌, List, length, None}
use Rattle.std.specs.List.{slice_get}
use Rattle.checking.specs.declared.rule.Rule.{Rule}
use Rattle.checking.specs.Rounds.{FirstRoundLaw, RoundLaw, ValidByRounds}
use Rattle.checking.specs.Justification.{OneJustification}
use Rattle.checking.specs.Verdicts.{OneVerdict}

-- a book has no rule at a place exactly when its list is no longer than that
abbrev pub Ends : Type 0
Ends = (rules : List Rule) (place : ℕ) → (slice_get rules place ≡ None) ↔ (length rules ≤ place)

pub record Laws : Type 0 where
  pub ends : Ends
  pub first_round : FirstRoundLaw
  pub round : RoundLaw
  pub valid_by_rounds : ValidByRounds
  pub one_justification : OneJustification
  pub one_verdict : OneVerdict
