-- The justification of an outfit: for each part its round and the rule that brings it. Assumes nothing.
use Rattle.std.specs.Prelude.{◌≡◌, ℕ, ◌<◌, ◌⊎◌, List, [], ◌∷◌, ◌++◌, length, drop, Some}
use Rattle.std.specs.List.{slice_get}
use Rattle.sets.specs.declared.parts.Parts.{Parts}
use Rattle.sets.specs.Members.{Has, Lowest}
use Rattle.sets.specs.Counting.{size}
use Rattle.checking.specs.declared.justification.Entry.{Entry}
use Rattle.checking.specs.declared.rule.Rule.{Rule}
use Rattle.checking.specs.Rounds.{Brings, Round, Lower}

-- an entry is right when it has the round of its part, and the lowest rule with a clause for the part whose needs all have lower rounds
pub record Right (rules : List Rule) (outfit : Parts) (e : Entry) : Type 0 where
  pub by_round : Round rules outfit e.round e.part
  pub by_rule : Lowest (Brings rules outfit (Lower rules outfit e.round) e.part) e.rule

-- by round, then by part
abbrev pub Before : Entry → Entry → Type 0
Before a b = (a.round < b.round) ⊎ ((a.round ≡ b.round) × (a.part < b.part))

-- a right entry for each part of which P holds, and no other, in order
pub record Lists (rules : List Rule) (outfit : Parts) (P : ℕ → Type 0) (es : List Entry) : Type 0 where
  pub right : (i : ℕ) (e : Entry) → slice_get es i ≡ Some e → P e.part × Right rules outfit e
  pub whole : (p : ℕ) → P p → (i : ℕ) × (e : Entry) × (slice_get es i ≡ Some e) × (e.part ≡ p)
  pub sorted : (i j : ℕ) (a b : Entry) → i < j → slice_get es i ≡ Some a → slice_get es j ≡ Some b → Before a b

-- the justification has the entries of the parts of the outfit
abbrev pub Justification : List Rule → Parts → List Entry → Type 0
Justification rules outfit es = Lists rules outfit (Has outfit) es

-- an outfit has one justification at most
abbrev pub OneJustification : Type 0
OneJustification = (rules : List Rule) (outfit : Parts) (es fs : List Entry) → Justification rules outfit es → Justification rules outfit fs → es ≡ fs

-- three bytes for each entry
abbrev pub bytes : List Entry → List ℕ
bytes [] = []
bytes (e ∷ es) = e.part ∷ e.round ∷ e.rule ∷ bytes es

-- what a buffer holds once bytes are written at its front: after them, what it held
abbrev pub fronted : List ℕ → List ℕ → List ℕ
fronted bs old = bs ++ drop (length bs) old

-- the justification stands at the front of the buffer, and n is the number of parts
pub record Written (rules : List Rule) (outfit : Parts) (n : ℕ) (old new : List ℕ) : Type 0 where
  pub entries : List Entry
  pub is : Justification rules outfit entries
  pub parts : n ≡ size outfit
  pub count : n ≡ length entries
  pub buffer : new ≡ fronted (bytes entries) old
