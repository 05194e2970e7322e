-- The binary digits of a number, over any width: what the library lacks. Assumes nothing.
use Rattle.std.proofs.Common.{◌≡◌, ℕ, zero, suc, ◌+◌, ◌-◌, ◌/◌, ◌%◌, ◌^◌, ◌<◌, ◌≤◌, ◌⊎◌, refl, sym, ap, ◌∙◌, inl, inr, mod-lt, mod-eq_of_lt, pow_pos, arith}
use Rattle.std.specs.Int.{bit_at}
use Rattle.std.specs.Int.RustNames.{bit_and, bit_or, bit_xor}
use Rattle.sets.specs.Members.{Lowest}
use lib.Bits.{and_comm, xor_add_and}
use lib.Count.{ones, ones_step, ones_cat, count_trailing_zeros, under}
use Rattle.std.proofs.lemmas.Bool.{cases_eq, cases_lt}
use Rattle.std.proofs.lemmas.Nat.{and_mask, or_disjoint, or_lt, ones_le_self, pow_below, shr_split}
use Rattle.std.proofs.lemmas.Nat.Bits.{bit_at-suc, bit_at-zero, bit_at-pow_same, bit_at-pow_other, bit_at_above, bit_at_and, bit_at_ones, bit_at_or, bit_at_xor, and_pow, same_from_bits}

-- the digits of `!b`, at a width w
pub bit_at_complement : (w b p : ℕ) → b < 2 ^ w → p < w → bit_at (2 ^ w - 1 - b) p ≡ 1 - bit_at b p
bit_at_complement w b p h l =
    let e : 2 ^ w - 1 - b ≡ bit_xor (2 ^ w - 1) b = omega (arith, xor_add_and (2 ^ w - 1) b, and_comm (2 ^ w - 1) b, and_mask b w, mod-eq_of_lt h) in
    ap (λ x. bit_at x p) e ∙ omega (arith, bit_at_xor (2 ^ w - 1) b p, bit_at_ones w p l)

-- `a & !b`, at a width w
pub holds_minus : (w a b p : ℕ) → a < 2 ^ w → b < 2 ^ w
    → (bit_at (bit_and a (2 ^ w - 1 - b)) p ≡ 1 → (bit_at a p ≡ 1) × (bit_at b p ≡ 1 → ⊥)) × ((bit_at a p ≡ 1) × (bit_at b p ≡ 1 → ⊥) → bit_at (bit_and a (2 ^ w - 1 - b)) p ≡ 1)
holds_minus w a b p ha hb = elim (cases_lt p w) [
  | inl l ↦ grind (arith, bit_at_and a (2 ^ w - 1 - b) p, bit_at_complement w b p hb l)
  | inr l ↦ grind (arith, bit_at_and a (2 ^ w - 1 - b) p, bit_at_above a w p ha l)
]

-- `a & b == a` and `a & b == 0`, of numbers of any width
pub within_and : (a b : ℕ) → ((p : ℕ) → bit_at a p ≡ 1 → bit_at b p ≡ 1) → bit_and a b ≡ a
within_and a b h = same_from_bits _ _ (λ p. grind (arith, bit_at_and a b p, h p))

pub and_within : (a b p : ℕ) → bit_and a b ≡ a → bit_at a p ≡ 1 → bit_at b p ≡ 1
and_within a b p e i = grind (arith, bit_at_and a b p)

pub apart_and : (a b : ℕ) → ((p : ℕ) → bit_at a p ≡ 1 → bit_at b p ≡ 1 → ⊥) → bit_and a b ≡ 0
apart_and a b h = same_from_bits _ _ (λ p. grind (arith, bit_at_and a b p, bit_at-zero p, h p))

pub and_apart : (a b p : ℕ) → bit_and a b ≡ 0 → bit_at a p ≡ 1 → bit_at b p ≡ 1 → ⊥
and_apart a b p e i j = grind (arith, bit_at_and a b p, bit_at-zero p)

-- a number of w digits has no digit 1 beyond them, and has one somewhere unless it is 0
pub digit_place : (w s p : ℕ) → s < 2 ^ w → bit_at s p ≡ 1 → p < w
digit_place w s p h d = elim (cases_lt p w) [ inl l ↦ l | inr l ↦ omega (arith, bit_at_above s w p h l) ]

pub some_digit : (w s : ℕ) → s < 2 ^ w → (s ≡ 0) ⊎ ((p : ℕ) × (bit_at s p ≡ 1))
some_digit zero s h = inl (omega arith)
some_digit (suc w) s h = go (s % 2) refl (some_digit w (s / 2) (omega arith))
  where
    go : (d : ℕ) → s % 2 ≡ d → (s / 2 ≡ 0) ⊎ ((p : ℕ) × (bit_at (s / 2) p ≡ 1)) → (s ≡ 0) ⊎ ((p : ℕ) × (bit_at s p ≡ 1))
    go zero e (inl z) = inl (omega arith)
    go zero e (inr t) = inr (suc t.0, bit_at-suc s t.0 ∙ t.1)
    go (suc d) e t = inr (0, omega arith)

-- the trailing zeros of a number that has a digit 1 among its w lowest: the place of the lowest
pub trailing_at : (w n p : ℕ) → p < w → bit_at n p ≡ 1 → bit_at n (count_trailing_zeros w n) ≡ 1
unfolding count_trailing_zeros
trailing_at zero n p l h = absurd (let z : ⊥ = omega arith in z)
trailing_at (suc w) n p l h = go (n % 2) refl (count_trailing_zeros w (n / 2)) (trailing_at w (n / 2)) p l h
  where
    go : (d : ℕ) → n % 2 ≡ d → (t : ℕ) → ((p : ℕ) → p < w → bit_at (n / 2) p ≡ 1 → bit_at (n / 2) t ≡ 1) → (p : ℕ) → p < suc w → bit_at n p ≡ 1 → bit_at n (under d t) ≡ 1
    go zero e t rest zero l h = absurd (let z : ⊥ = omega arith in z)
    go zero e t rest (suc p) l h = bit_at-suc n t ∙ rest p (omega arith) (sym (bit_at-suc n p) ∙ h)
    go (suc d) e t rest p l h = omega arith

pub trailing_below : (w n q : ℕ) → q < count_trailing_zeros w n → bit_at n q ≡ 0
unfolding count_trailing_zeros
trailing_below zero n q l = absurd (let z : ⊥ = omega arith in z)
trailing_below (suc w) n q l = go (n % 2) refl (count_trailing_zeros w (n / 2)) (trailing_below w (n / 2)) q l
  where
    go : (d : ℕ) → n % 2 ≡ d → (t : ℕ) → ((q : ℕ) → q < t → bit_at (n / 2) q ≡ 0) → (q : ℕ) → q < under d t → bit_at n q ≡ 0
    go zero e t rest zero l = omega arith
    go zero e t rest (suc q) l = bit_at-suc n q ∙ rest q (omega arith)
    go (suc d) e t rest q l = absurd (let z : ⊥ = omega arith in z)

-- so the place of the lowest digit 1
pub lowest_digit : (w n : ℕ) → 0 < n → n < 2 ^ w → Lowest (λ p. bit_at n p ≡ 1) (count_trailing_zeros w n)
lowest_digit w n some h = elim (some_digit w n h) [
  | inl z ↦ absurd (let y : ⊥ = omega (arith, z, some) in y)
  | inr t ↦ (trailing_at w n t.0 (digit_place w n t.0 h t.1) t.1, λ q l i. omega (arith, trailing_below w n q l, i))
]

-- `n & n - 1` has all digits 1 of n but the lowest
pub less_lowest : (p n q : ℕ) → Lowest (λ r. bit_at n r ≡ 1) p
    → (bit_at (bit_and n (n - 1)) q ≡ 1 → (bit_at n q ≡ 1) × (q ≡ p → ⊥)) × ((bit_at n q ≡ 1) × (q ≡ p → ⊥) → bit_at (bit_and n (n - 1)) q ≡ 1)
less_lowest p n q low = grind (arith, bit_at_and n (n - 1) q, taken p n q low)
  where
    taken : (p n q : ℕ) → Lowest (λ r. bit_at n r ≡ 1) p
        → ((bit_at n q ≡ 1) × (bit_at (n - 1) q ≡ 1) → q ≡ p → ⊥) × ((bit_at n q ≡ 1) × (q ≡ p → ⊥) → bit_at (n - 1) q ≡ 1)
    taken zero n zero low = (λ h e. omega (arith, h.0, h.1), λ h. absurd (h.1 refl))
    taken zero n (suc q) low =
        let half : (n - 1) / 2 ≡ n / 2 = omega (arith, low.0) in
        let same : bit_at (n - 1) (suc q) ≡ bit_at n (suc q) = bit_at-suc (n - 1) q ∙ ap (λ x. bit_at x q) half ∙ sym (bit_at-suc n q) in
        (λ h e. omega arith, λ h. same ∙ h.0)
    taken (suc p) n zero low = (λ h e. omega arith, λ h. absurd (low.1 0 (omega arith) h.0))
    taken (suc p) n (suc q) low =
        let even : n % 2 ≡ 0 = omega (arith, low.1 0 (omega arith)) in
        let half : (n - 1) / 2 ≡ n / 2 - 1 = omega (arith, even) in
        let same : bit_at (n - 1) (suc q) ≡ bit_at (n / 2 - 1) q = bit_at-suc (n - 1) q ∙ ap (λ x. bit_at x q) half in
        let rest = taken p (n / 2) q (sym (bit_at-suc n p) ∙ low.0, λ r l i. low.1 (suc r) (omega arith) (bit_at-suc n r ∙ i)) in (
          λ h e. rest.0 (sym (bit_at-suc n q) ∙ h.0, sym same ∙ h.1) (omega arith),
          λ h. same ∙ rest.1 (sym (bit_at-suc n q) ∙ h.0, λ e. h.1 (ap suc e)),
        )

-- more digits, a larger count
pub ones_within : (w a b : ℕ) → a < 2 ^ w → b < 2 ^ w → ((p : ℕ) → bit_at a p ≡ 1 → bit_at b p ≡ 1) → ones a ≤ ones b
ones_within zero a b ha hb h = let e : a ≡ b = omega arith in omega (arith, ap ones e)
ones_within (suc w) a b ha hb h =
    let rest = ones_within w (a / 2) (b / 2) (omega arith) (omega arith) (λ p. grind (arith, h (suc p), bit_at-suc a p, bit_at-suc b p)) in
    grind (arith, ones_step a, ones_step b, h 0)

-- a digit 1 more counts one more
pub ones_with : (s p : ℕ) → bit_at s p ≡ 0 → ones (bit_or s (2 ^ p)) ≡ ones s + 1
ones_with s p new =
    let low : s % 2 ^ p < 2 ^ p = mod-lt s (pow_pos p) in
    grind (arith, or_disjoint, and_pow, shr_split s p, ones_cat p (suc (s / 2 ^ p)) _ low, ones_cat p (s / 2 ^ p) _ low, ones_step)

-- a digit 1 that the other number lacks: a larger count still
pub ones_more : (q w a b : ℕ) → a < 2 ^ w → b < 2 ^ w → ((p : ℕ) → bit_at a p ≡ 1 → bit_at b p ≡ 1) → bit_at b q ≡ 1 → (bit_at a q ≡ 1 → ⊥) → ones a < ones b
ones_more q w a b ha hb h new old =
    let more : ones (bit_or a (2 ^ q)) ≡ ones a + 1 = ones_with a q (omega (arith, old)) in
    let low : bit_or a (2 ^ q) < 2 ^ w = or_lt w a (2 ^ q) ha (pow_below q w (digit_place w b q hb new)) in
    omega (arith, more, ones_within w (bit_or a (2 ^ q)) b low hb (λ p. grind (arith, bit_at_or a (2 ^ q) p, bit_at-pow_same q, bit_at-pow_other q p, h p)))

pub some_ones : (w n p : ℕ) → n < 2 ^ w → bit_at n p ≡ 1 → 0 < ones n
some_ones w n p h d = omega (arith, ones_more p w 0 n (pow_pos w) h (λ q k. absurd (let z : ⊥ = omega (arith, bit_at-zero q) in z)) d (λ k. omega (arith, bit_at-zero p)))

-- a count of at most one: all places of a digit 1 are the same
pub ones_one : (w n : ℕ) → n < 2 ^ w → ones n ≤ 1 → (p q : ℕ) → bit_at n p ≡ 1 → bit_at n q ≡ 1 → p ≡ q
ones_one w n h l p q i j = elim (cases_eq p q) [
  | inl e ↦ e
  | inr d ↦
      let low : 2 ^ p < 2 ^ w = pow_below p w (digit_place w n p h i) in
      let more : ones (2 ^ p) < ones n = ones_more q w (2 ^ p) n low h (λ r k. grind (arith, bit_at-pow_other p r, i)) j (λ k. grind (arith, bit_at-pow_other p q)) in
      absurd (let z : ⊥ = omega (arith, l, more, some_ones w (2 ^ p) p low (bit_at-pow_same p)) in z)
]

pub one_ones : (w n : ℕ) → n < 2 ^ w → ((p q : ℕ) → bit_at n p ≡ 1 → bit_at n q ≡ 1 → p ≡ q) → ones n ≤ 1
one_ones w n h same = elim (some_digit w n h) [
  | inl e ↦ omega (arith, ap ones e, ones_le_self 0)
  | inr t ↦
      let is : n ≡ bit_or 0 (2 ^ t.0) = same_from_bits _ _ (λ p. grind (arith, bit_at_or 0 (2 ^ t.0) p, bit_at-zero p, bit_at-pow_same t.0, bit_at-pow_other t.0 p, same p t.0, t.1)) in
      omega (arith, ap ones is, ones_with 0 t.0 (bit_at-zero t.0), ones_le_self 0)
]
