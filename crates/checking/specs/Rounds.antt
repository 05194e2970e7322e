-- In which round a part is derived. Assumes nothing.
use Rattle.std.specs.Prelude.{◌≡◌, ℕ, zero, suc, ◌<◌, ◌↔◌, List, Some}
use Rattle.std.specs.List.{slice_get}
use Rattle.sets.specs.declared.parts.Parts.{Parts}
use Rattle.sets.specs.Members.{Has, Empty}
use Rattle.checking.specs.declared.rule.Rule.{Rule}
use Rattle.checking.specs.Validity.{ClauseFor, Keeps, Valid}

-- rule i has a clause for p, and S holds of all needs of that clause
abbrev pub Brings : List Rule → Parts → (ℕ → Type 0) → ℕ → ℕ → Type 0
Brings rules outfit S p i = (r : Rule) × (slice_get rules i ≡ Some r) × ClauseFor r outfit p × ((q : ℕ) → Has r.needs q → S q)

-- some rule has such a clause
abbrev pub Follows : List Rule → Parts → (ℕ → Type 0) → ℕ → Type 0
Follows rules outfit S p = (i : ℕ) × Brings rules outfit S p i

-- p has a round, and it is at most k
unfoldable pub By : List Rule → Parts → ℕ → ℕ → Type 0
By rules outfit zero p = ⊥
By rules outfit (suc k) p = Follows rules outfit (By rules outfit k) p

-- p has round k: `RoundLaw` says it in the words that rounds are meant by
abbrev pub Round : List Rule → Parts → ℕ → ℕ → Type 0
Round rules outfit k p = By rules outfit k p × ((j : ℕ) → j < k → By rules outfit j p → ⊥)

-- p has a round below k
abbrev pub Lower : List Rule → Parts → ℕ → ℕ → Type 0
Lower rules outfit k p = (j : ℕ) × (j < k) × Round rules outfit j p

-- every part of the outfit has a round
abbrev pub Justified : List Rule → Parts → Type 0
Justified rules outfit = (p : ℕ) → Has outfit p → (k : ℕ) × Round rules outfit k p

-- a part has round 1 when a clause for it has no needs
abbrev pub FirstRoundLaw : Type 0
FirstRoundLaw =
    (rules : List Rule) (outfit : Parts) (p : ℕ)
    → Round rules outfit 1 p ↔ ((i : ℕ) × (r : Rule) × (slice_get rules i ≡ Some r) × ClauseFor r outfit p × Empty r.needs)

-- a part has round k, from 1 on, when it has no lower round and a clause for it has needs of rounds below k only; none has round 0
abbrev pub RoundLaw : Type 0
RoundLaw =
    (rules : List Rule) (outfit : Parts) (k p : ℕ)
    → Round rules outfit k p ↔ ((0 < k) × (Lower rules outfit k p → ⊥) × Follows rules outfit (Lower rules outfit k) p)

-- an outfit is valid exactly when it keeps all rules and every part in it has a round
abbrev pub ValidByRounds : Type 0
ValidByRounds = (rules : List Rule) (outfit : Parts) → Valid rules outfit ↔ (Keeps rules outfit × Justified rules outfit)
