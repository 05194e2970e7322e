-- The patterns of heads are within the range. Assumes nothing.
use Rattle.std.proofs.Common.{◌≡◌, ℕ, zero, suc, ◌+◌, ◌*◌, ◌/◌, ◌%◌, ◌^◌, ◌<◌, ◌≤◌, Bool, true, false, cond, T, eqb, sym, ap, subst, inl, inr, true≢false, le_trans, le_of_eq, le_refl, mul-le-mul_right, mod-lt, mod-eq_of_lt, mul-le-mul, eq-or-lt_of_le, mul_right_comm, le_of_mul-le-mul_right, arith, lit≤, le→leb, pow_pos, pow_mono}
use Rattle.std.proofs.lemmas.Bool.{lt-leb, ne_eqb}
use lib.Ieee.{Float, nan, inf, fin, binary32, of_bits, of_fields, up, down, odd}
use lib.Ieee.Exact.{HasValue, odd_sign}
use Rattle.heads.specs.Range.{within, largest}

-- a value a / c with no sign and at most 100 is a head
of_value : (x : Float) (a c : ℕ) → 0 < c → HasValue x false a c → a ≤ 100 * c → T (within x)
of_value nan a c C h l = absurd h
of_value (inf s) a c C h l = absurd h
of_value (fin true m e) a c C h l = absurd (true≢false h.0)
of_value (fin false m e) a c C h l =
    le→leb (m * up e) (100 * down e)
    (le_of_mul-le-mul_right
    (le_trans (le_of_eq h.1) (le_trans (mul-le-mul_right (down e) l) (le_of_eq (mul_right_comm 100 c (down e)))))
    C)

-- the field 132 or less, or 133 with the digits of 100
under : (x t : ℕ) → t < 8388608 → suc x * 8388608 + t ≤ 1120403456 → (8388608 + t) * 2 ^ x ≤ 100 * 2 ^ 149
under x t k h =
    let top : suc x ≤ 133 = omega arith in
    elim (eq-or-lt_of_le top) [
      | inl e ↦
          let at : x ≡ 132 = omega arith in
          le_trans (mul-le-mul {n₁ = 8388608 + t} {m₁ = 2 ^ x} {n₂ = 13107200} {m₂ = 2 ^ 132} (omega arith) (le_of_eq (ap (λ n. 2 ^ n) at))) (lit≤ tt)
      | inr l ↦ le_trans (mul-le-mul {n₁ = 8388608 + t} {m₁ = 2 ^ x} {n₂ = 16777216} {m₂ = 2 ^ 131} (omega arith) (pow_mono {i = x} {j = 131} (omega arith))) (lit≤ tt)
    ]

fields : (x t : ℕ) → t < 8388608 → x * 8388608 + t ≤ 1120403456 → T (within (of_fields binary32 false x t))
unfolding of_fields
fields zero t k h =
    of_value (odd 24 false t 0 149) (t * 2 ^ 0) (2 ^ 149) (pow_pos 149) (odd_sign 24 false t 0 149)
    (le_trans (mul-le-mul {n₁ = t} {m₁ = 2 ^ 0} {n₂ = 8388608} {m₂ = 1} (omega arith) (le_refl 1)) (lit≤ tt))
fields (suc x) t k h =
    subst (λ (b : Bool). T (within (cond b (cond (eqb t 0) (inf false) nan) (odd 24 false (8388608 + t) x 149)))) (sym (ne_eqb (suc x) 255 (omega arith)))
    (of_value (odd 24 false (8388608 + t) x 149) ((8388608 + t) * 2 ^ x) (2 ^ 149) (pow_pos 149) (odd_sign 24 false (8388608 + t) x 149) (under x t k h))

pub pattern_within : (b : ℕ) → b ≤ largest → T (within (of_bits binary32 b))
unfolding of_bits
pattern_within b h =
    let small : b % 2147483648 ≡ b = mod-eq_of_lt (omega arith) in
    subst (λ (s : Bool). T (within (of_fields binary32 s (b % 2147483648 / 8388608) (b % 8388608)))) (sym (lt-leb 2147483648 b (omega arith)))
    (subst (λ (n : ℕ). T (within (of_fields binary32 false (n / 8388608) (b % 8388608)))) (sym small)
    (fields (b / 8388608) (b % 8388608) (mod-lt b (lit≤ tt)) (omega arith)))
