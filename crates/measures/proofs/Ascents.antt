-- The parts of an outfit in ascending number. Assumes nothing.
use Rattle.std.proofs.Common.{◌≡◌, ℕ, zero, suc, ◌<◌, List, [], ◌∷◌, length, Some, inl, inr, arith}
use Rattle.std.proofs.lemmas.Option.{slice_get_within}
use Rattle.std.specs.List.{slice_get}
use Rattle.std.proofs.lemmas.Bool.Decides.{nat_tests}
use Rattle.std.proofs.lemmas.Bool.{cases_eq}
use Rattle.sets.specs.declared.parts.Parts.{Parts}
use Rattle.sets.specs.Width.{how_many}
use Rattle.sets.specs.Members.{Has}
use Rattle.sets.specs.Steps.{parts_below, in_order}
use Rattle.sets.proofs.Told.{known}
use Rattle.lists.proofs.Nths.{nth_front, nth_last, nth_push}
use Rattle.lists.proofs.Sorting.{one_list}
use Rattle.measures.specs.Values.{Ascending}

module _ (outfit : Parts) where
  -- each is a part of the outfit, below the number
  below_has : (n p i : ℕ) → slice_get (parts_below outfit n) i ≡ Some p → Has outfit p × (p < n)
  unfolding parts_below
  below_has zero p i e = cc
  below_has (suc n) p i e = grind (arith, nat_tests, nth_push (parts_below outfit n) n p i, below_has n p i)

  -- and each part of the outfit below the number is there
  has_below : (n p : ℕ) → p < n → Has outfit p → (i : ℕ) × (slice_get (parts_below outfit n) i ≡ Some p)
  unfolding parts_below
  has_below zero p l h = absurd (let z : ⊥ = omega arith in z)
  has_below (suc n) p l h = elim (cases_eq p n) [
    | inl e ↦ (length (parts_below outfit n), grind (arith, nat_tests, nth_last (parts_below outfit n) n))
    | inr ne ↦ let m = has_below n p (omega (arith, ne)) h in (m.0, grind (arith, nat_tests, m.1, nth_front (parts_below outfit n) (n ∷ []) m.0 p))
  ]

  rising_below : (n i j p q : ℕ) → i < j → slice_get (parts_below outfit n) i ≡ Some p → slice_get (parts_below outfit n) j ≡ Some q → p < q
  unfolding parts_below
  rising_below zero i j p q l h k = cc
  rising_below (suc n) i j p q l h k =
      grind (arith, nat_tests, nth_push (parts_below outfit n) n p i, nth_push (parts_below outfit n) n q j, slice_get_within (parts_below outfit n) j q, below_has n p i, rising_below n i j p q l)

  pub ascending : Ascending outfit (in_order outfit)
  ascending = record {
    parts = λ p. (λ h. has_below how_many p (known outfit p h) h, λ m. (below_has how_many p m.0 m.1).0);
    rising = rising_below how_many;
  }

  -- there is only one such list
  pub one_ascent : (ps : List ℕ) → Ascending outfit ps → ps ≡ in_order outfit
  one_ascent ps a =
      one_list ◌<◌ (λ x y l m. omega arith) ps (in_order outfit) a.rising ascending.rising
      (λ p m. (ascending.parts p).0 ((a.parts p).1 m)) (λ p m. (a.parts p).0 ((ascending.parts p).1 m))
