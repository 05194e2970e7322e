-- Which answer a check gives: by the rules in force, and then by what is asked of an outfit. Assumes nothing.
use Rattle.std.specs.Prelude.{◌≡◌, ℕ, ◌≤◌, List, ◌++◌, length, is_ok, Decides, Result, MatchResult}
use Rattle.sets.specs.declared.parts.Parts.{Parts}
use Rattle.sets.specs.Members.{Has, Lowest}
use Rattle.refusals.specs.declared.Refusal.{Refusal}
use Rattle.refusals.specs.Refusals.{Code, numbered}
use Rattle.checking.specs.declared.rule.Rule.{Rule}
use Rattle.checking.specs.Sizes.{least_room}
use Rattle.checking.specs.Validity.{Valid}
use Rattle.checking.specs.Justification.{Written}
use Rattle.checking.specs.Verdicts.{Fault, Passing, PassingByRounds}
use Rattle.checking.specs.Calls.{Wish, wanted, barred, State}

-- a wanted part that is not in the outfit, a barred one that is
abbrev pub Missing : (ℕ → Wish) → Parts → ℕ → Type 0
Missing wish outfit p = (wish p ≡ wanted) × (Has outfit p → ⊥)

abbrev pub Present : (ℕ → Wish) → Parts → ℕ → Type 0
Present wish outfit p = (wish p ≡ barred) × Has outfit p

-- all wanted parts are in the outfit, and no barred one
abbrev pub MeetsWishes : (ℕ → Wish) → Parts → Type 0
MeetsWishes wish outfit = ((p : ℕ) → wish p ≡ wanted → Has outfit p) × ((p : ℕ) → wish p ≡ barred → Has outfit p → ⊥)

-- which wish is not met, as number and place: the lowest part that is missing, else the lowest that is present
pub data Unmet (wish : ℕ → Wish) (outfit : Parts) (code : Code) : Type 0 where
  missing : (p : ℕ) → Lowest (Missing wish outfit) p → code ≡ (56, p) → Unmet wish outfit code
  present : ((q : ℕ) → Missing wish outfit q → ⊥) → (p : ℕ) → Lowest (Present wish outfit) p → code ≡ (57, p) → Unmet wish outfit code

-- the rules in force: the book's, and then the own rules
abbrev pub rules_in_force : List Rule → State → List Rule
rules_in_force book s = book ++ s.own

-- what is asked of an outfit besides the rules: today, that it meets the wishes. A wish is no rule: it derives nothing.
abbrev pub Meets : State → Parts → Type 0
Meets s outfit = MeetsWishes s.wish outfit

-- an outfit counts when it is valid by the rules in force and meets what is asked
abbrev pub Counts : List Rule → State → Parts → Type 0
Counts book s outfit = Valid (rules_in_force book s) outfit × Meets s outfit

-- it passes where the buffer has the room too
abbrev pub Passes : List Rule → State → Parts → ℕ → Type 0
Passes book s outfit room = (least_room ≤ room) × Counts book s outfit

-- the same by rounds
abbrev pub PassesByRounds : List Rule → State → Parts → ℕ → Type 0
PassesByRounds book s outfit room = PassingByRounds (rules_in_force book s) outfit room × Meets s outfit

-- why a check refuses: as the judge does by the rules; and where the judge would not, for a wish
pub data Objection (rules : List Rule) (wish : ℕ → Wish) (outfit : Parts) (room : ℕ) (code : Code) : Type 0 where
  by_rules : Fault rules outfit room code → Objection rules wish outfit room code
  by_wishes : Passing rules outfit room → Unmet wish outfit code → Objection rules wish outfit room code

-- the answer, and what the buffer then holds
abbrev pub Checked : List Rule → State → Parts → List ℕ → List ℕ → Result ℕ Refusal → Type 0
Checked book s outfit old new r =
    MatchResult r (λ n. Passes book s outfit (length old) × Written (rules_in_force book s) outfit n old new)
    (λ e. Objection (rules_in_force book s) s.wish outfit (length old) (numbered e) × (new ≡ old))

-- what a check promises: its answer with the buffer; and that it passes exactly the outfits that count, given its buffer
pub record Check (book : List Rule) (s : State) (outfit : Parts) (old new : List ℕ) (r : Result ℕ Refusal) : Type 0 where
  pub verdict : Checked book s outfit old new r
  pub passes : Decides (is_ok r) (Passes book s outfit (length old))
  pub rounds : Decides (is_ok r) (PassesByRounds book s outfit (length old))

-- a verdict fixes the answer and every byte of the buffer
abbrev pub OneCheck : Type 0
OneCheck =
    (book : List Rule) (s : State) (outfit : Parts) (old new other : List ℕ) (r t : Result ℕ Refusal)
    → Checked book s outfit old new r → Checked book s outfit old other t → (r ≡ t) × (new ≡ other)
