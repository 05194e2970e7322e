-- Sets of parts by their members, whatever the number of parts. Assumes nothing.
use Rattle.std.proofs.Common.{◌≡◌, ℕ, zero, suc, ◌^◌, ◌<◌, eqb, ◌⊎◌, Decides, MatchBool, sym, ap, subst, mod-eq_of_lt, pow_pos, arith}
use denote.Struct.Declared.{one_follows}
use Rattle.sets.specs.Width.{how_many}
use Rattle.sets.specs.Members.{Has, Within, Apart, Empty, Holds, Lowest}
use Rattle.sets.specs.Numbers.{set_of}
use Rattle.sets.specs.declared.parts.Parts.{Parts}
use Rattle.sets.specs.contracts.parts.Parts.{the_type}
use Rattle.std.specs.Int.{bit_at}
use lib.Bits.{bit_and, bit_or}
use Rattle.std.proofs.Math.Dec.{eqb-suc-zero}
use Rattle.std.proofs.lemmas.Bool.Decides.{Decides-eqb, Decides-like}
use Rattle.std.proofs.lemmas.Nat.{or_lt, pow_below}
use Rattle.std.proofs.lemmas.Nat.Bits.{bit_at-zero, bit_at_or, bit_at-pow_same, bit_at-pow_other, same_from_bits}
use Rattle.sets.proofs.Digits.{within_and, and_within, apart_and, and_apart, lowest_digit}

-- `s | 1 << q`: one part more
pub holds_more : (s q p : ℕ) → (bit_at (bit_or s (2 ^ q)) p ≡ 1 → (bit_at s p ≡ 1) ⊎ (p ≡ q)) × ((bit_at s p ≡ 1) ⊎ (p ≡ q) → bit_at (bit_or s (2 ^ q)) p ≡ 1)
holds_more s q p = grind (arith, bit_at_or, bit_at-pow_same q, bit_at-pow_other q p)

-- `a & b == a` and `a & b == 0`
pub decides_within : (a b : Parts) → Decides (eqb (bit_and a.bits b.bits) a.bits) (Within a b)
decides_within a b = Decides-like _ (λ e p. and_within a.bits b.bits p e) (within_and a.bits b.bits) (Decides-eqb _ _)

pub decides_apart : (a b : Parts) → Decides (eqb (bit_and a.bits b.bits) 0) (Apart a b)
decides_apart a b = Decides-like _ (λ e p. and_apart a.bits b.bits p e) (apart_and a.bits b.bits) (Decides-eqb _ _)

-- `s == 0`
pub none_or_some : (w s : ℕ) → s < 2 ^ w → MatchBool (eqb s 0) ((p : ℕ) → bit_at s p ≡ 1 → ⊥) ((p : ℕ) × (bit_at s p ≡ 1))
none_or_some w zero h = λ p d. omega (arith, bit_at-zero p)
none_or_some w (suc s) h = rw (eqb-suc-zero s) (_, (lowest_digit w (suc s) (omega arith) h).0)

-- sets with the same number are equal
pub same_number : (a b : Parts) → a.bits ≡ b.bits → a ≡ b
same_number a b e = one_follows the_type a b (rw e)

-- sets with the same parts are equal
pub same_parts : (a b : Parts) → Within a b → Within b a → a ≡ b
same_parts a b to from = same_number a b (same_from_bits _ _ (λ p. grind (arith, to p, from p)))

-- `a == b`
pub decides_same : (a b : Parts) → Decides (eqb a.bits b.bits) (Within a b × Within b a)
decides_same a b = Decides-like _ (λ e. rw e (λ p h. h, λ p h. h)) (λ h. ap (λ (s : Parts). s.bits) (same_parts a b h.0 h.1)) (Decides-eqb _ _)

-- a set is the set of its number
pub same_set : (s : Parts) → set_of s.bits ≡ s
unfolding set_of
same_set s = same_number _ s (mod-eq_of_lt s.small)

-- the set of no part, and a set with a part more
pub no_part : (t : Parts) × Empty t
no_part = (record { bits = 0; small = pow_pos how_many }, λ p h. omega (arith, bit_at-zero p))

pub and_part : (s : Parts) (q : ℕ) → q < how_many → (t : Parts) × Holds t (λ p. Has s p ⊎ (p ≡ q))
and_part s q l = (record { bits = bit_or s.bits (2 ^ q); small = or_lt how_many _ _ s.small (pow_below q how_many l) }, holds_more s.bits q)

-- the number of a set that has a part is not 0
pub some_bits : (s : Parts) (p : ℕ) → Has s p → 0 < s.bits
some_bits s p h = go s.bits h
  where
    go : (n : ℕ) → bit_at n p ≡ 1 → 0 < n
    go zero i = omega (arith, bit_at-zero p)
    go (suc n) i = omega arith

-- there is one lowest
one_lowest : (P : ℕ → Type 0) (p q : ℕ) → Lowest P p → Lowest P q → p ≡ q
one_lowest P p q a b = grind arith

-- what is lowest depends only on what holds
pub lowest_like : (P Q : ℕ → Type 0) → ((p : ℕ) → P p → Q p) → ((p : ℕ) → Q p → P p) → (p : ℕ) → Lowest P p → Lowest Q p
lowest_like P Q to from p l = (to p l.0, λ q less h. l.1 q less (from q h))

-- a set less its lowest part is one less the part that is lowest
pub less_part : (s t : Parts) (p : ℕ) → Lowest (Has s) p → Holds t (λ q. Has s q × (Lowest (Has s) q → ⊥)) → Holds t (λ q. Has s q × (q ≡ p → ⊥))
less_part s t p low is q = (
  λ h. let m = (is q).0 h in (m.0, λ e. m.1 (subst (λ (x : ℕ). Lowest (Has s) x) (sym e) low)),
  λ h. (is q).1 (h.0, λ l. h.1 (one_lowest (Has s) q p l low)),
)

-- and the other way, of the digits of a number
pub less_any : (s : Parts) (n p : ℕ) → Lowest (Has s) p → ((q : ℕ) → (bit_at n q ≡ 1 → Has s q × (q ≡ p → ⊥)) × (Has s q × (q ≡ p → ⊥) → bit_at n q ≡ 1))
    → (q : ℕ) → (bit_at n q ≡ 1 → Has s q × (Lowest (Has s) q → ⊥)) × (Has s q × (Lowest (Has s) q → ⊥) → bit_at n q ≡ 1)
less_any s n p low is q = (
  λ h. let m = (is q).0 h in (m.0, λ l. m.1 (one_lowest (Has s) q p l low)),
  λ h. (is q).1 (h.0, λ e. h.1 (subst (λ (x : ℕ). Lowest (Has s) x) (sym e) low)),
)
