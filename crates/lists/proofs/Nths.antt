-- What stands at a place of a list. Assumes nothing.
use Rattle.std.proofs.Common.{◌≡◌, ℕ, ◌+◌, ◌-◌, ◌≤◌, ◌⊎◌, List, [], ◌∷◌, ◌++◌, length, take, Some, ap, ◌∙◌, arith}
use Rattle.std.proofs.lemmas.List.{take_more, places}
use Rattle.std.proofs.lemmas.Option.{gets, slice_get_within, slice_get_cases, get_or_from_slice_get}
use Rattle.std.specs.List.{slice_get}

module _ {X : Type 0} where
  -- an item of two lists, one after the other
  pub nth_front : (xs ys : List X) (i : ℕ) (x : X) → slice_get xs i ≡ Some x → slice_get (xs ++ ys) i ≡ Some x
  nth_front xs ys i x e = let l = slice_get_within xs i x e in let g = get_or_from_slice_get xs i x x e in grind (arith, gets, places)

  pub nth_back : (xs ys : List X) (i : ℕ) → slice_get (xs ++ ys) (length xs + i) ≡ slice_get ys i
  nth_back xs ys i = grind (arith, gets, places, slice_get_cases ys i, slice_get_cases (xs ++ ys) (length xs + i))

  pub nth_either : (xs ys : List X) (i : ℕ) (x : X) → slice_get (xs ++ ys) i ≡ Some x → (slice_get xs i ≡ Some x) ⊎ ((length xs ≤ i) × (slice_get ys (i - length xs) ≡ Some x))
  nth_either xs ys i x e = grind (arith, gets, places, slice_get_cases xs i, slice_get_cases ys (i - length xs), slice_get_cases (xs ++ ys) i)

  -- one item more
  pub nth_last : (xs : List X) (x : X) → slice_get (xs ++ x ∷ []) (length xs) ≡ Some x
  nth_last xs x = grind (arith, gets, places)

  pub nth_push : (xs : List X) (x y : X) (i : ℕ) → slice_get (xs ++ x ∷ []) i ≡ Some y → (slice_get xs i ≡ Some y) ⊎ ((i ≡ length xs) × (x ≡ y))
  nth_push xs x y i e = grind (arith, gets, places, slice_get_cases xs i, slice_get_cases (xs ++ x ∷ []) i)

  pub take_nth : (xs : List X) (i : ℕ) (x : X) → slice_get xs i ≡ Some x → take (i + 1) xs ≡ take i xs ++ x ∷ []
  take_nth xs i x e = let l = slice_get_within xs i x e in let g = get_or_from_slice_get xs i x x e in take_more xs i x l ∙ ap (λ y. take i xs ++ y ∷ []) g
