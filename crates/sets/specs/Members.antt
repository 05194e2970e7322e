-- Which parts a set has. Assumes nothing.
use Rattle.std.specs.Prelude.{◌≡◌, ℕ, ◌/◌, ◌%◌, ◌^◌, ◌<◌}
use Rattle.sets.specs.declared.parts.Parts.{Parts}

-- part p is in the set s: the binary digit of place p is 1 in the number of s
abbrev pub Has : Parts → ℕ → Type 0
Has s p = (s.bits / 2 ^ p) % 2 ≡ 1

-- every part of a is in b
abbrev pub Within : Parts → Parts → Type 0
Within a b = (p : ℕ) → Has a p → Has b p

-- no part is in both
abbrev pub Apart : Parts → Parts → Type 0
Apart a b = (p : ℕ) → Has a p → Has b p → ⊥

-- s has no part
abbrev pub Empty : Parts → Type 0
Empty s = (p : ℕ) → Has s p → ⊥

-- s has exactly the parts of which P holds
abbrev pub Holds : Parts → (ℕ → Type 0) → Type 0
Holds s P = (p : ℕ) → (Has s p → P p) × (P p → Has s p)

-- p is the lowest number of which P holds
abbrev pub Lowest : (ℕ → Type 0) → ℕ → Type 0
Lowest P p = P p × ((q : ℕ) → q < p → P q → ⊥)
