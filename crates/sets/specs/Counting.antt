-- How many parts a set has. Assumes nothing.
use Rattle.std.specs.Prelude.{◌≡◌, ℕ, ◌+◌, ◌≤◌, ◌⊎◌, count_ones}
use Rattle.sets.specs.declared.parts.Parts.{Parts}
use Rattle.sets.specs.Width.{how_many}
use Rattle.sets.specs.Members.{Has, Empty, Holds}

-- the count of the digits 1
abbrev pub size : Parts → ℕ
size s = count_ones s.bits

-- what counting means: the empty set counts 0, and one part more counts one more
pub record Counting : Type 0 where
  pub none : (s : Parts) → Empty s → size s ≡ 0
  pub more : (s t : Parts) (p : ℕ) → (Has s p → ⊥) → Holds t (λ q. Has s q ⊎ (q ≡ p)) → size t ≡ size s + 1
  pub most : (s : Parts) → size s ≤ how_many
