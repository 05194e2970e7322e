-- The list that an array with a count stands for. Assumes nothing.
use Rattle.std.specs.Prelude.{◌≡◌, ℕ, ◌+◌, ◌<◌, ◌≤◌, Option, Result, List, [], ◌∷◌, ◌++◌, length, take, drop, MatchOption, MatchResult}
use Rattle.std.proofs.Common.{arith, length-take}
use Rattle.std.specs.List.{slice_get}
use Rattle.lists.specs.declared.held.Full.{Full}
use Rattle.lists.specs.declared.held.Held.{Held}

-- the first items of the array, as many as the count says
abbrev pub held : {X : Type 0} {n : ℕ} → Held X n → List X
held h = take h.count h.items

pub held_few : {X : Type 0} {n : ℕ} (h : Held X n) → length (held h) ≤ n
held_few h = omega (arith, length-take h.count h.items, h.few)

-- one item more at the end, or nothing changes where the list is full
abbrev pub Pushed : {X : Type 0} {n : ℕ} → X → Held X n → Held X n → Result (Unit {0}) Full → Type 0
Pushed {X} {n} x was is r = MatchResult r (λ _. (length (held was) < n) × (held is ≡ held was ++ x ∷ [])) (λ _. (n ≤ length (held was)) × (is ≡ was))

-- a list less the item at a place
abbrev pub without : {X : Type 0} → ℕ → List X → List X
without i xs = take i xs ++ drop (i + 1) xs

-- one item less: those before the place stand where they stood, and the later ones have moved down by one
pub record MovedDown {X : Type 0} (place : ℕ) (was is : List X) : Type 0 where
  pub front : (i : ℕ) → i < place → slice_get is i ≡ slice_get was i
  pub later : (i : ℕ) → place ≤ i → slice_get is i ≡ slice_get was (i + 1)
  pub less : length was ≡ length is + 1

-- the answer is the item at the place, and the list has it no more; or there is none, and nothing changes
abbrev pub Removed : {X : Type 0} {n : ℕ} → ℕ → Held X n → Held X n → Option X → Type 0
Removed i was is r =
    (r ≡ slice_get (held was) i) × MatchOption r ((length (held was) ≤ i) × (is ≡ was)) (λ _. (i < length (held was)) × (held is ≡ without i (held was)) × MovedDown i (held was) (held is))
