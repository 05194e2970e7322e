-- Which bit patterns are heads. Assumes nothing.
use Rattle.std.specs.Prelude.{◌≡◌, ℕ, ◌<◌, ◌≤◌, Option, MatchOption, from_bits}
use Rattle.std.specs.Float.{binary32}
use Rattle.heads.specs.declared.head.Head.{Head}
use Rattle.heads.specs.Range.{largest}

-- none exactly where the pattern is above the largest, else the head that it is the pattern of
abbrev pub ByPattern : ℕ → Option Head → Type 0
ByPattern pattern r = MatchOption r (largest < pattern) (λ h. (pattern ≤ largest) × (h.metres ≡ from_bits binary32 pattern))
