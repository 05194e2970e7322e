-- How many parts a set has, whatever the number of parts. Assumes nothing.
use Rattle.std.proofs.Common.{◌≡◌, ℕ, zero, suc, ◌+◌, ◌-◌, ◌*◌, ◌/◌, ◌%◌, ◌^◌, ◌<◌, ◌≤◌, sym, refl, ap, ◌∙◌, inl, inr, arith}
use Rattle.std.specs.Int.{bit_at}
use lib.Bits.{bit_or}
use lib.Count.{ones, ones_step, ones-le}
use Rattle.std.proofs.lemmas.Nat.{ones_le_self}
use Rattle.std.proofs.lemmas.Nat.Bits.{bit_at-suc, bit_at-zero, same_from_bits}
use Rattle.sets.specs.declared.parts.Parts.{Parts}
use Rattle.sets.specs.Width.{how_many}
use Rattle.sets.specs.Members.{Has, Within, Holds}
use Rattle.sets.specs.Counting.{size, Counting}
use Rattle.sets.proofs.Digits.{ones_with, ones_more, some_ones, ones_one, one_ones}
use Rattle.sets.proofs.Sets.{holds_more, and_part}
use Rattle.sets.proofs.Told.{told_has}

-- t is s less its part p, as numbers
abbrev pub Less : ℕ → ℕ → ℕ → Type 0
Less p s t = (ones s ≡ suc (ones t)) × (t ≤ s) × ((q : ℕ) → (bit_at t q ≡ 1 → (bit_at s q ≡ 1) × (q ≡ p → ⊥)) × ((bit_at s q ≡ 1) × (q ≡ p → ⊥) → bit_at t q ≡ 1))

-- if the halves are so, and the lowest digits are the same
less_up : (p s r t : ℕ) → t / 2 ≡ r → t % 2 ≡ s % 2 → Less p (s / 2) r → Less (suc p) s t
less_up p s r t half low l = (omega (arith, ones_step s, ones_step t, ap ones half, l.0), omega (arith, l.1), each)
  where
    each : (q : ℕ) → (bit_at t q ≡ 1 → (bit_at s q ≡ 1) × (q ≡ suc p → ⊥)) × ((bit_at s q ≡ 1) × (q ≡ suc p → ⊥) → bit_at t q ≡ 1)
    each zero = (λ d. (omega arith, λ z. omega arith), λ d. omega arith)
    each (suc q) =
        let e : bit_at t (suc q) ≡ bit_at r q = bit_at-suc t q ∙ ap (λ (x : ℕ). bit_at x q) half in
        let at = l.2 q in (
          λ d. let m = at.0 (sym e ∙ d) in (bit_at-suc s q ∙ m.0, λ z. m.1 (omega arith)),
          λ d. e ∙ at.1 (sym (bit_at-suc s q) ∙ d.0, λ z. d.1 (ap suc z)),
        )

pub less_one : (p s : ℕ) → bit_at s p ≡ 1 → (t : ℕ) × Less p s t
less_one zero s h = (s - 1, (omega (arith, ones_step s, ones_step (s - 1), ap ones half), omega arith, each))
  where
    half : (s - 1) / 2 ≡ s / 2
    half = omega arith

    each : (q : ℕ) → (bit_at (s - 1) q ≡ 1 → (bit_at s q ≡ 1) × (q ≡ 0 → ⊥)) × ((bit_at s q ≡ 1) × (q ≡ 0 → ⊥) → bit_at (s - 1) q ≡ 1)
    each zero = (λ d. absurd (let z : ⊥ = omega arith in z), λ d. absurd (d.1 refl))
    each (suc q) =
        let e : bit_at (s - 1) (suc q) ≡ bit_at s (suc q) = bit_at-suc (s - 1) q ∙ ap (λ (x : ℕ). bit_at x q) half ∙ sym (bit_at-suc s q) in
        (λ d. (sym e ∙ d, λ z. omega arith), λ d. e ∙ d.0)
less_one (suc p) s h =
    let r = less_one p (s / 2) (sym (bit_at-suc s p) ∙ h) in
    (2 * r.0 + s % 2, less_up p s r.0 (2 * r.0 + s % 2) (omega arith) (omega arith) r.1)

-- the laws of counting
pub counting : Counting
counting = record {
  none = λ s e. omega (arith, ones_le_self s.bits, same_from_bits s.bits 0 (λ p. grind (arith, e p, bit_at-zero p)));
  more = λ s t p new is.
      let e : t.bits ≡ bit_or s.bits (2 ^ p) = same_from_bits _ _ (λ q. grind (arith, is q, holds_more s.bits p q)) in
      ap ones e ∙ ones_with s.bits p (omega (arith, new));
  most = λ s. ones-le how_many s.bits s.small;
}

-- a set with more parts counts more
pub size_more : (q : ℕ) (a b : Parts) → Within a b → Has b q → (Has a q → ⊥) → size a < size b
size_more q a b h new old = ones_more q how_many a.bits b.bits a.small b.small h new old

-- a set that has a part counts one at least
pub some_size : (s : Parts) (p : ℕ) → Has s p → 0 < size s
some_size s p h = some_ones how_many s.bits p s.small h

-- a count of at most one: all parts are the same one
pub size_one : (s : Parts) → size s ≤ 1 → (p q : ℕ) → Has s p → Has s q → p ≡ q
size_one s l = ones_one how_many s.bits s.small l

pub one_size : (s : Parts) → ((p q : ℕ) → Has s p → Has s q → p ≡ q) → size s ≤ 1
one_size s same = one_ones how_many s.bits s.small same

-- a set without a part that it had counts less
pub size_less : (was is : Parts) (p : ℕ) → Has was p → Holds is (λ q. Has was q × (q ≡ p → ⊥)) → size is < size was
size_less was is p h less = size_more p is was (λ q i. ((less q).0 i).0) h (λ i. ((less p).0 i).1 refl)

-- a set that counts as many parts as there are has them all
pub full : (s : Parts) → how_many ≤ size s → (p : ℕ) → p < how_many → Has s p
full s all p l = elim (told_has s p) [
  | inl h ↦ h
  | inr n ↦ let t = and_part s p l in absurd (omega (arith, all, counting.more s t.0 p n t.1, counting.most t.0))
]
