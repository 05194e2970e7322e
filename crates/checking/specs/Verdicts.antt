-- Which answer an outfit gets: refused for the first of these reasons that there is, or passed. Assumes nothing.
use Rattle.std.specs.Prelude.{◌≡◌, ℕ, ◌<◌, ◌≤◌, List, length, Some, Result, MatchResult, ◌≢◌}
use Rattle.std.specs.List.{slice_get}
use Rattle.sets.specs.declared.parts.Parts.{Parts}
use Rattle.sets.specs.Members.{Has, Empty, Lowest}
use Rattle.refusals.specs.declared.Refusal.{Refusal}
use Rattle.refusals.specs.Refusals.{Code, numbered}
use Rattle.checking.specs.declared.rule.Kind.TheVariants.{Exclusive}
use Rattle.checking.specs.declared.rule.Rule.{Rule}
use Rattle.checking.specs.Sizes.{least_room}
use Rattle.checking.specs.Validity.{Chosen, Kept, Keeps, Valid}
use Rattle.checking.specs.Rounds.{Round, Justified}
use Rattle.checking.specs.Justification.{Written}

-- rule i, which is r, is the lowest-numbered that is not kept
abbrev pub Broken : List Rule → Parts → ℕ → Rule → Type 0
Broken rules outfit i r = (slice_get rules i ≡ Some r) × (Kept r outfit → ⊥) × ((j : ℕ) (s : Rule) → j < i → slice_get rules j ≡ Some s → Kept s outfit)

-- it has heads, and none is chosen
abbrev pub HasNoneChosen : Rule → Parts → Type 0
HasNoneChosen r outfit = ((p : ℕ) × Has r.heads p) × ((p : ℕ) → Chosen r outfit p → ⊥)

-- it is an exclusive choice, and several heads are chosen
abbrev pub HasSeveralChosen : Rule → Parts → Type 0
HasSeveralChosen r outfit = (r.kind ≡ Exclusive) × ((p : ℕ) × (q : ℕ) × Chosen r outfit p × Chosen r outfit q × (p ≢ q))

-- what is wrong with rule i, as number and place
pub data Blame (r : Rule) (outfit : Parts) (i : ℕ) (code : Code) : Type 0 where
  none_chosen : HasNoneChosen r outfit → code ≡ (52, i) → Blame r outfit i code
  several_chosen : HasSeveralChosen r outfit → code ≡ (53, i) → Blame r outfit i code
  incompatible : Empty r.heads → code ≡ (54, i) → Blame r outfit i code

-- a part of the outfit without a round
abbrev pub Roundless : List Rule → Parts → ℕ → Type 0
Roundless rules outfit p = Has outfit p × ((k : ℕ) → Round rules outfit k p → ⊥)

-- why an outfit is refused where the buffer has this room: each reason counts only where none of those before it does
pub data Fault (rules : List Rule) (outfit : Parts) (room : ℕ) (code : Code) : Type 0 where
  short : room < least_room → code ≡ (51, 0) → Fault rules outfit room code
  broken : least_room ≤ room → (i : ℕ) (r : Rule) → Broken rules outfit i r → Blame r outfit i code → Fault rules outfit room code
  roundless : least_room ≤ room → Keeps rules outfit → (p : ℕ) → Lowest (Roundless rules outfit) p → code ≡ (55, p) → Fault rules outfit room code

-- an outfit passes when the buffer has the room and the outfit is valid
abbrev pub Passing : List Rule → Parts → ℕ → Type 0
Passing rules outfit room = (least_room ≤ room) × Valid rules outfit

-- the same by rounds
abbrev pub PassingByRounds : List Rule → Parts → ℕ → Type 0
PassingByRounds rules outfit room = (least_room ≤ room) × Keeps rules outfit × Justified rules outfit

-- the answer, and what the buffer then holds
abbrev pub Verdict : List Rule → Parts → List ℕ → List ℕ → Result ℕ Refusal → Type 0
Verdict rules outfit old new r =
    MatchResult r (λ n. Passing rules outfit (length old) × Written rules outfit n old new) (λ e. Fault rules outfit (length old) (numbered e) × (new ≡ old))

-- this fixes the answer and every byte of the buffer
abbrev pub OneVerdict : Type 0
OneVerdict =
    (rules : List Rule) (outfit : Parts) (old new other : List ℕ) (r s : Result ℕ Refusal)
    → Verdict rules outfit old new r → Verdict rules outfit old other s → (r ≡ s) × (new ≡ other)
