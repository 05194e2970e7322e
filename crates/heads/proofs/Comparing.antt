-- Comparison of the floats that are heads. Assumes nothing.
use Rattle.std.proofs.Common.{◌≡◌, ℕ, ◌*◌, true, false, T, ◌||◌, ◌&&◌, eqb, ltb, ◌⊎◌, pos, arith, zero-mul}
use Rattle.std.proofs.lemmas.Float.{le_of_lt, le_of_eq, lt-or-eq, lt_of_not-le}
use Rattle.std.specs.Float.{NotNan}
use Rattle.std.specs.Ordering.{partial_le, float_partial_cmp}
use lib.Ieee.{is_nan, Float, nan, inf, fin, le, up, down}
use Rattle.heads.specs.Range.{within}

-- `<=` by the order of floats
pub same_le : (x y : Float) → partial_le float_partial_cmp x y ≡ le x y
same_le x y = grind (arith, le_of_lt x y, le_of_eq x y, lt-or-eq x y)

number : (x : Float) → T (within x) → NotNan x
unfolding is_nan
number nan p = absurd p
number (inf s) p = tt
number (fin s m e) p = tt

pub le_joins : (x y : Float) → T (within x) → T (within y) → T (le x y) ⊎ T (le y x)
le_joins x y p q = grind (arith, le_of_lt y x, lt_of_not-le x y (number x p) (number y q))

least : (z k : ℕ) → z ≡ 0 → T (ltb z k || (eqb z k && true))
least z k e = grind arith

pub le_from_zero : (x : Float) → T (within x) → T (le (fin false 0 (pos 0)) x)
unfolding le
le_from_zero nan p = absurd p
le_from_zero (inf s) p = absurd p
le_from_zero (fin true m e) p = absurd p
le_from_zero (fin false m e) p = least (0 * down e) (m * up e * 1) (zero-mul (down e))
