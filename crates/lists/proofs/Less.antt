-- A list less the item at a place. Assumes nothing.
use Rattle.std.proofs.Common.{◌≡◌, ℕ, ◌+◌, ◌-◌, ◌<◌, ◌≤◌, List, ◌++◌, length, take, drop, sym, ap, ap₂, ◌∙◌, append_assoc, length-append, length-take-le, length-drop, arith, rules}
use Rattle.std.proofs.lemmas.List.{places, take_at, take-take, drop-drop}
use Rattle.std.proofs.lemmas.Option.{gets, slice_get_cases}
use Rattle.std.proofs.lemmas.Slice.{between_is}
use Rattle.std.specs.List.{slice_get}
use Rattle.lists.specs.Held.{without, MovedDown}
use borrow.Rule.Slice.PartMut.{put_mid, mid_of, post_of}

module _ {X : Type 0} where
  less : (xs : List X) (i : ℕ) → i < length xs → length xs ≡ length (without i xs) + 1
  less xs i l = let k : length (without i xs) ≡ i + (length xs - (i + 1)) = search (rules, places) in omega arith

  front : (xs : List X) (i j : ℕ) → i < length xs → j < i → slice_get (without i xs) j ≡ slice_get xs j
  front xs i j l m = let k = less xs i l in grind (arith, gets, places, slice_get_cases xs j, slice_get_cases (without i xs) j)

  later : (xs : List X) (i j : ℕ) → i < length xs → i ≤ j → slice_get (without i xs) j ≡ slice_get xs (j + 1)
  later xs i j l m = let k = less xs i l in grind (arith, gets, places, slice_get_cases xs (j + 1), slice_get_cases (without i xs) j)

  pub moved_down : (xs : List X) (i : ℕ) → i < length xs → MovedDown i xs (without i xs)
  moved_down xs i l = record { front = λ j. front xs i j l; later = λ j. later xs i j l; less = less xs i l }

  -- the first n items, those from the place on turned by one: the list less the item there, and then that item
  pub turned : (xs ys : List X) (i n : ℕ) → i < n → n ≤ length xs → ys ≡ drop 1 (mid_of i (n - i) xs) ++ take 1 (mid_of i (n - i) xs)
      → take (n - 1) (put_mid i (n - i) xs ys) ≡ without i (take n xs)
  turned xs ys i n l few e =
      let mid = mid_of i (n - i) xs in
      let last = take 1 mid ++ post_of i (n - i) xs in
      let front = take i xs ++ drop 1 mid in
      let m : length mid ≡ n - i = search (rules, places) in
      let k : length front ≡ n - 1 = omega (arith, m, length-append (take i xs) (drop 1 mid), length-take-le i xs (omega arith), length-drop 1 mid) in
      let apart : put_mid i (n - i) xs ys ≡ front ++ last = rw e (search (rules, append_assoc)) in
      ap (take (n - 1)) apart ∙ take_at front last (n - 1) k
      ∙ ap₂ (λ a b. a ++ b) (sym (take-take i n xs (omega arith))) (ap (drop 1) (between_is xs i n) ∙ drop-drop 1 i (take n xs))
