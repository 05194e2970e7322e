-- Heads compared as floats. Assumes nothing.
use Rattle.std.specs.Prelude.{◌≡◌, Bool, true, false, cond, ◌⊎◌, pos}
use Rattle.std.specs.Float.{fin}
use Rattle.std.specs.Float.Ieee.{le}
use Rattle.heads.specs.declared.head.Head.{Head}

abbrev pub zero_head : Head
zero_head = record { metres = fin false 0 (pos 0); ok = tt }

-- the comparison of the floats
abbrev pub at_most : Head → Head → Bool
at_most a b = le a.metres b.metres

-- b where a is at most b, else a
abbrev pub larger : Head → Head → Head
larger a b = cond (at_most a b) b a

-- what the comparison owes on heads, and what the larger of two is
pub record Order : Type 0 where
  pub transitive : (a b c : Head) → at_most a b ≡ true → at_most b c ≡ true → at_most a c ≡ true
  pub total : (a b : Head) → (at_most a b ≡ true) ⊎ (at_most b a ≡ true)
  pub from_zero : (a : Head) → at_most zero_head a ≡ true
  pub one_of : (a b : Head) → (larger a b ≡ a) ⊎ (larger a b ≡ b)
  pub above : (a b : Head) → (at_most a (larger a b) ≡ true) × (at_most b (larger a b) ≡ true)
