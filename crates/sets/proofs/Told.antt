-- What can be told of sets of parts, and the set of all parts of which something that can be told holds. Assumes nothing.
use Rattle.std.proofs.Common.{ℕ, zero, suc, ◌<◌, ◌≤◌, Bool, ◌⊎◌, Decides, inl, inr, arith}
use Rattle.std.proofs.lemmas.Bool.{cases_eq}
use Rattle.std.proofs.lemmas.Nat.Bits.{bit_at_above}
use Rattle.sets.specs.declared.parts.Parts.{Parts}
use Rattle.sets.specs.Width.{how_many}
use Rattle.sets.specs.Members.{Has, Within, Apart, Empty, Holds}
use Rattle.sets.proofs.Sets.{decides_within, decides_apart, none_or_some, no_part, and_part}

-- it holds, or it does not
abbrev pub Told : Type 0 → Type 0
Told P = P ⊎ (P → ⊥)

pub told_both : {P Q : Type 0} → Told P → Told Q → Told (P × Q)
told_both (inl p) (inl q) = inl (p, q)
told_both (inl p) (inr n) = inr (λ h. n h.1)
told_both (inr n) t = inr (λ h. n h.0)

pub told_not : {P : Type 0} → Told P → Told (P → ⊥)
told_not (inl p) = inr (λ n. n p)
told_not (inr n) = inl n

told_by : {P : Type 0} (r : Bool) → Decides r P → Told P
told_by r d = grind (arith, d)

pub told_has : (s : Parts) (p : ℕ) → Told (Has s p)
told_has s p = cases_eq _ 1

pub told_within : (a b : Parts) → Told (Within a b)
told_within a b = told_by _ (decides_within a b)

pub told_apart : (a b : Parts) → Told (Apart a b)
told_apart a b = told_by _ (decides_apart a b)

-- a set has no part, or some part
pub some_or_none : (s : Parts) → Empty s ⊎ ((p : ℕ) × Has s p)
some_or_none s = grind (arith, none_or_some how_many s.bits s.small)

-- a part of a set is one of those that there are
pub known : (s : Parts) (p : ℕ) → Has s p → p < how_many
known s p h = grind (arith, bit_at_above s.bits how_many p s.small)

-- the set of the parts below k of which P holds
below : (P : ℕ → Type 0) → ((p : ℕ) → Told (P p)) → (k : ℕ) → k ≤ how_many → (s : Parts) × Holds s (λ p. (p < k) × P p)
below P told zero l = (no_part.0, λ p. grind (arith, no_part.1 p))
below P told (suc k) l = go (below P told k (omega arith)) (told k)
  where
    go : (s : Parts) × Holds s (λ p. (p < k) × P p) → Told (P k) → (s : Parts) × Holds s (λ p. (p < suc k) × P p)
    go s (inl h) = let t = and_part s.0 k l in (t.0, λ p. grind (arith, s.1 p, t.1 p))
    go s (inr n) = (s.0, λ p. grind (arith, s.1 p))

-- the set of the parts of which P holds, if P holds of no other number
pub collect : (P : ℕ → Type 0) → ((p : ℕ) → Told (P p)) → ((p : ℕ) → P p → p < how_many) → (s : Parts) × Holds s P
collect P told small = let s = below P told how_many (omega arith) in (s.0, λ p. (λ h. ((s.1 p).0 h).1, λ h. (s.1 p).1 (small p h, h)))
