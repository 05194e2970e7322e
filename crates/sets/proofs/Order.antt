-- The parts of a set in ascending number. Assumes nothing.
use Rattle.std.proofs.Common.{◌≡◌, ℕ, zero, suc, ◌<◌, [], ◌∷◌, refl, inl, inr, arith}
use Rattle.std.proofs.lemmas.Bool.{cases_eq}
use Rattle.std.proofs.lemmas.Bool.Decides.{nat_tests}
use Rattle.sets.specs.declared.parts.Parts.{Parts}
use Rattle.sets.specs.Width.{how_many}
use Rattle.sets.specs.Members.{Has, Empty, Holds, Lowest}
use Rattle.sets.specs.Steps.{parts_below, in_order}
use Rattle.sets.proofs.Told.{known}

-- where there are no parts below a number, there are none in the list
none_below : (s : Parts) (n : ℕ) → ((q : ℕ) → q < n → Has s q → ⊥) → parts_below s n ≡ []
unfolding parts_below
none_below s zero none = refl
none_below s (suc n) none = grind (arith, nat_tests, none n, none_below s n (λ q l. none q (omega arith)))

pub none_in_order : (s : Parts) → Empty s → in_order s ≡ []
none_in_order s none = none_below s how_many (λ q l. none q)

-- the lowest part comes first, and then those that are left without it
module _ (was is : Parts) (p : ℕ) (low : Lowest (Has was) p) (less : Holds is (λ q. Has was q × (q ≡ p → ⊥))) where
  first_below : (n : ℕ) → p < n → parts_below was n ≡ p ∷ parts_below is n
  unfolding parts_below
  first_below zero l = absurd (let z : ⊥ = omega arith in z)
  first_below (suc n) l = elim (cases_eq n p) [
    | inl e ↦ (
        let none = none_below was n (λ q m. low.1 q (omega (arith, m, e))) in
        let left = none_below is n (λ q m h. low.1 q (omega (arith, m, e)) ((less q).0 h).0) in
        let out : Has is p → ⊥ = λ h. ((less p).0 h).1 refl in
        grind (arith, nat_tests, none, left, e, low.0, out)
        )
    | inr d ↦ grind (arith, nat_tests, first_below n (omega (arith, l, d)), (less n).0, (less n).1, d)
  ]

  pub first_in_order : in_order was ≡ p ∷ in_order is
  first_in_order = first_below how_many (known was p low.0)
