-- Sheets filled with numbers, one after another. Assumes nothing.
use Rattle.std.proofs.Common.{◌≡◌, ℕ, ◌+◌, ◌<◌, ◌≤◌, List, length, map, take, get_or, slice_index, ap, sym, subst, ◌∙◌, inl, inr, arith}
use Rattle.std.specs.Prelude.{◌≢◌}
use Rattle.std.specs.Array.{IsMapOf}
use Rattle.std.specs.Fn.{Mut, Called}
use Rattle.std.proofs.lemmas.Bool.{cases_eq}
use Rattle.std.proofs.lemmas.List.{get_or-map, get_or-take, get_or_past, length-map, map-id, ext_get_or, length-take}
use Rattle.sets.specs.Width.{how_many}
use Rattle.refusals.specs.Refusals.{Answer}
use Rattle.measures.specs.declared.sheet.Sheet.{Sheet}
use Rattle.measures.specs.Writing.{SetCard, shown_on}
use Rattle.mill.specs.Sheets.{Filled}

module _ {X V N : Type 0} (show : X → V) (Shows : V → ℕ → Type 0) (number_of : N → ℕ) (numbers : List N) where
  -- by the first n of the numbers
  abbrev pub FilledBelow : ℕ → Sheet X → Type 0
  FilledBelow n = Filled show Shows (take n (map number_of numbers))

  pub one_more : (n : ℕ) (any : N) (limit code : ℕ) (was is : Sheet X) (r : Answer) → n < length numbers → n < how_many → number_of (get_or numbers n any) ≤ limit
      → SetCard (shown_on show) limit code Shows n (number_of (get_or numbers n any)) was is r → FilledBelow n was → FilledBelow (n + 1) is
  one_more n any limit code was is r l there low set before = record {
    card = λ p k.
        let d = (set.done there low).1 in
        elim (cases_eq p n) [
          | inl e ↦ (d.0, ap (shown_on show is) e ∙ d.2.new, subst (Shows d.0) (new p e) d.1)
          | inr other ↦ let h = before.card p k in (h.0, d.2.old p other ∙ h.1, subst (Shows h.0) (old p other) h.2)
        ];
  } where
    new : (p : ℕ) → p ≡ n → number_of (get_or numbers n any) ≡ slice_index (take (n + 1) (map number_of numbers)) p
    new p e = grind (arith, get_or-take, get_or-map, l, e)

    old : (p : ℕ) → p ≢ n → slice_index (take n (map number_of numbers)) p ≡ slice_index (take (n + 1) (map number_of numbers)) p
    old p other = grind (arith, get_or-take, get_or_past, length-take, other)

-- numbers that a closure gives of each item of an array
pub of_items : {X V F A : Type 0} {show : X → V} {Shows : V → ℕ → Type 0} {sheet : Sheet X} {g : Mut F (A × Unit {0}) ℕ} {f : F} {xs : List A} {ys : List ℕ} (h : A → ℕ)
    → Filled show Shows (map (λ n. n) ys) sheet → IsMapOf g f xs ys (length xs) → ((p : F) (x : A) (y : ℕ) (q : F) → Called g p (x, tt) y q → y ≡ h x) → A
    → Filled show Shows (map h xs) sheet
of_items {show = show} {Shows = Shows} {sheet = sheet} {xs = xs} {ys = ys} h filled items answers any =
    subst (λ ns. Filled show Shows ns sheet) (map-id ys ∙ ext_get_or 0 ys (map h xs) (items.long ∙ sym (length-map xs h)) same) filled
  where
    same : (i : ℕ) → i < length ys → get_or ys i 0 ≡ get_or (map h xs) i 0
    same i l =
        let k : i < length xs = omega (arith, l, items.long) in
        let call = items.at i any 0 k in
        answers call.0 _ _ call.1 call.2 ∙ sym (get_or-map h xs i any 0 k)
