-- What the steps of a derivation leave: for the contracts of inner functions. Assumes nothing.
use Rattle.std.specs.Prelude.{◌≡◌, ℕ, ◌<◌, ◌≤◌, ◌⊎◌, List, [], ◌∷◌, ◌++◌, length, Some, slice_index}
use Rattle.std.specs.List.{slice_get}
use Rattle.sets.specs.declared.parts.Parts.{Parts}
use Rattle.sets.specs.Members.{Has, Holds, Lowest}
use Rattle.sets.specs.Counting.{size}
use Rattle.checking.specs.declared.justification.Derivation.{Derivation}
use Rattle.checking.specs.declared.justification.Entry.{Entry}
use Rattle.checking.specs.declared.rule.Rule.{Rule}
use Rattle.checking.specs.Sizes.{least_room}
use Rattle.lists.specs.Held.{held}
use Rattle.checking.specs.Validity.{Valid}
use Rattle.checking.specs.Rounds.{Brings, Follows, Round}
use Rattle.checking.specs.Justification.{Lists, Justification}

-- the rule is noted for these parts, and nothing changes for others
pub record Noted (parts : Parts) (rule : ℕ) (was is : List ℕ) : Type 0 where
  pub here : (p : ℕ) → Has parts p → slice_index is p ≡ rule
  pub other : (p : ℕ) → (Has parts p → ⊥) → slice_index is p ≡ slice_index was p

-- the parts that follow from those of `below` and are not among them, and for each the lowest rule that brings it
pub record Next (rules : List Rule) (outfit below new : Parts) (lowest : List ℕ) : Type 0 where
  pub parts : Holds new (λ p. Follows rules outfit (Has below) p × (Has below p → ⊥))
  pub rule : (p : ℕ) → Has new p → Lowest (Brings rules outfit (Has below) p) (slice_index lowest p)

-- the entries of one round for the parts of which P holds, by part
pub record Rows (P : ℕ → Type 0) (round : ℕ) (lowest : List ℕ) (es : List Entry) : Type 0 where
  pub each : (i : ℕ) (e : Entry) → slice_get es i ≡ Some e → P e.part × (e.round ≡ round) × (e.rule ≡ slice_index lowest e.part)
  pub whole : (p : ℕ) → P p → (i : ℕ) × (e : Entry) × (slice_get es i ≡ Some e) × (e.part ≡ p)
  pub sorted : (i j : ℕ) (a b : Entry) → i < j → slice_get es i ≡ Some a → slice_get es j ≡ Some b → a.part < b.part

-- a derivation with one entry more
pub record Added (e : Entry) (was is : Derivation) : Type 0 where
  pub reached : Holds is.reached (λ p. Has was.reached p ⊎ (p ≡ e.part))
  pub entries : held is.entries ≡ held was.entries ++ e ∷ []

-- a derivation with the entries of one round more
pub record Extended (new : Parts) (round : ℕ) (lowest : List ℕ) (was is : Derivation) : Type 0 where
  pub reached : Holds is.reached (λ p. Has was.reached p ⊎ Has new p)
  pub more : List Entry
  pub rows : Rows (Has new) round lowest more
  pub entries : held is.entries ≡ held was.entries ++ more

-- the parts that have a round, and their entries
pub record Derived (rules : List Rule) (outfit : Parts) (d : Derivation) : Type 0 where
  pub reached : Holds d.reached (λ p. (k : ℕ) × Round rules outfit k p)
  pub lists : Lists rules outfit (λ p. (k : ℕ) × Round rules outfit k p) (held d.entries)

-- an outfit that passes, as it is derived
pub record Passed (rules : List Rule) (outfit : Parts) (room : ℕ) (d : Derivation) : Type 0 where
  pub enough : least_room ≤ room
  pub valid : Valid rules outfit
  pub entries : Justification rules outfit (held d.entries)
  pub count : length (held d.entries) ≡ size outfit
