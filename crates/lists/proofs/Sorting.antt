-- Sorted lists. Assumes nothing.
use Rattle.std.proofs.Common.{◌≡◌, ℕ, zero, suc, ◌<◌, List, [], ◌∷◌, Some, sym, refl, subst, arith}
use Rattle.std.specs.List.{slice_get}
use Rattle.std.proofs.lemmas.Option.{none-some}

-- two sorted lists of the same items are equal
module _ {X : Type 0} (R : X → X → Type 0) (asym : (a b : X) → R a b → R b a → ⊥) where
  abbrev pub Sorted : List X → Type 0
  Sorted xs = (i j : ℕ) (a b : X) → i < j → slice_get xs i ≡ Some a → slice_get xs j ≡ Some b → R a b

  abbrev pub In : X → List X → Type 0
  In x xs = (i : ℕ) × (slice_get xs i ≡ Some x)

  tail : (x y : X) (xs ys : List X) → x ≡ y → Sorted (x ∷ xs) → ((a : X) → In a (x ∷ xs) → In a (y ∷ ys)) → (a : X) → In a xs → In a ys
  tail x y xs ys same s sub a m = at (sub a (suc m.0, m.1)).0 (sub a (suc m.0, m.1)).1
    where
      at : (i : ℕ) → slice_get (y ∷ ys) i ≡ Some a → (i : ℕ) × (slice_get ys i ≡ Some a)
      at zero h =
          let is : x ≡ a = cc in
          let r = s 0 (suc m.0) x a (omega arith) refl m.1 in
          absurd (asym x a r (subst (λ (z : X). R a z) (sym is) (subst (λ (z : X). R z a) is r)))
      at (suc i) h = (i, h)

  pub one_list : (xs ys : List X) → Sorted xs → Sorted ys → ((x : X) → In x xs → In x ys) → ((x : X) → In x ys → In x xs) → xs ≡ ys
  one_list [] [] s t to from = refl
  one_list [] (y ∷ ys) s t to from = absurd (none-some y (from y (0, refl)).1)
  one_list (x ∷ xs) [] s t to from = absurd (none-some x (to x (0, refl)).1)
  one_list (x ∷ xs) (y ∷ ys) s t to from =
      go (λ same. one_list xs ys (λ i j a b l. s (suc i) (suc j) a b (omega arith)) (λ i j a b l. t (suc i) (suc j) a b (omega arith))
      (tail x y xs ys same s to) (tail y x ys xs (sym same) t from))
      (to x (0, refl)).0 (from y (0, refl)).0 (to x (0, refl)).1 (from y (0, refl)).1
    where
      go : (x ≡ y → xs ≡ ys) → (i j : ℕ) → slice_get (y ∷ ys) i ≡ Some x → slice_get (x ∷ xs) j ≡ Some y → ◌≡◌ {A = List X} (x ∷ xs) (y ∷ ys)
      go rest zero j h k = let same : x ≡ y = cc in let r = rest same in cc
      go rest (suc i) zero h k = let same : x ≡ y = cc in let r = rest same in cc
      go rest (suc i) (suc j) h k = absurd (asym y x (t 0 (suc i) y x (omega arith) refl h) (s 0 (suc j) x y (omega arith) refl k))
