-- Wishes by the calls that made them, and the laws of lists of calls. Assumes nothing.
use Rattle.std.proofs.Common.{◌≡◌, ℕ, zero, suc, ◌≤◌, ◌⊎◌, ◌↔◌, Bool, true, false, cond, List, [], ◌∷◌, ◌++◌, length, Option, Some, None, fold, sym, ap, ◌∙◌, inl, inr, refl, arith}
use Rattle.std.specs.List.{slice_get}
use Rattle.std.proofs.lemmas.Bool.Decides.{nat_tests}
use Rattle.std.proofs.lemmas.Grind.{common_steps}
use Rattle.std.proofs.lemmas.List.Sums.{fold-append}
use Rattle.std.proofs.lemmas.Option.{none-some}
use Rattle.sets.specs.Width.{how_many}
use Rattle.lists.proofs.Less.{moved_down}
use Rattle.refusals.specs.Refusals.{Code}
use Rattle.checking.specs.declared.call.Call.{Call}
use Rattle.checking.specs.declared.call.Call.TheVariants.{Make}
use Rattle.checking.specs.declared.call.Step.{Step}
use Rattle.checking.specs.declared.call.Step.TheVariants.{Want, Bar, Release}
use Rattle.checking.specs.declared.rule.Rule.{Rule}
use Rattle.checking.specs.Sizes.{most_own}
use Rattle.checking.specs.Calls.{Wish, free, wanted, barred, State, start, refusal, wished, called, after, Since, CallLaws}

-- a test that was passed, since there is no refusal
pub passed : (b : Bool) (other : Option Code) (code : Code) → cond b other (Some code) ≡ None → b ≡ true
passed true other code e = refl
passed false other code e = absurd (none-some code (sym e))

-- the wish that was put, and put again
pub here : (part : ℕ) (w : Wish) (old : ℕ → Wish) → wished part w old part ≡ w
here part w old = grind (arith, nat_tests)

pub same_wish : (part : ℕ) (w : Wish) (own : List Rule) (old : ℕ → Wish) → ◌≡◌ {A = State} (record { own = own; wish = wished part w (wished part w old) }) (record { own = own; wish = wished part w old })
same_wish part w own old = λ i. record { own = own; wish = λ p. each p i }
  where
    each : (p : ℕ) → wished part w (wished part w old) p ≡ wished part w old p
    each p = grind (arith, nat_tests)

-- what every call keeps, every list of calls keeps
kept : (P : State → Type 0) → ((s : State) (c : Call) → P s → P (called s c)) → (s : State) (cs : List Call) → P s → P (fold called s cs)
kept P keep s [] h = h
kept P keep s (c ∷ cs) h = kept P keep (called s c) cs (keep s c h)

few : (s : State) (c : Call) → length s.own ≤ most_own → length (called s c).own ≤ most_own
few s c h = grind (arith, nat_tests, common_steps)

-- nothing is wished of a part that there is not
known : (p : ℕ) → how_many ≤ p → (s : State) (c : Call) → s.wish p ≡ free → (called s c).wish p ≡ free
known p l s c h = grind (arith, nat_tests)

-- p is not released in the list
abbrev Unreleased : ℕ → List Call → Type 0
Unreleased p cs = (i : ℕ) → slice_get cs i ≡ Some (Make (Release p)) → ⊥

unreleased_more : (p : ℕ) (c : Call) (cs : List Call) → (c ≡ Make (Release p) → ⊥) → Unreleased p cs → Unreleased p (c ∷ cs)
unreleased_more p c cs n u zero e = n (cc)
unreleased_more p c cs n u (suc i) e = u i e

-- One wish w of the part p, and the step that makes it.
module _ (p : ℕ) (w : Wish) (mine : Step) (some : free ≡ w → ⊥)
    (makes : (s : State) → refusal s mine ≡ None → (called s (Make mine)).wish p ≡ w)
    (stays : (s : State) (c : Call) → (c ≡ Make (Release p) → ⊥) → s.wish p ≡ w → (called s c).wish p ≡ w)
    (comes : (s : State) (c : Call) → (how_many ≤ p → s.wish p ≡ free) → (called s c).wish p ≡ w
    → ((s.wish p ≡ w) × (c ≡ Make (Release p) → ⊥)) ⊎ ((c ≡ Make mine) × (refusal s mine ≡ None))) where
  -- it stays until the part is released
  forward : (s : State) (cs : List Call) → s.wish p ≡ w → Unreleased p cs → (fold called s cs).wish p ≡ w
  forward s [] h u = h
  forward s (c ∷ cs) h u = forward (called s c) cs (stays s c (λ e. u 0 (ap Some e)) h) (λ i. u (suc i))

  -- so it was from the start, or a step of the list that was done made it; and p was not released since
  pub data Back (s : State) (cs : List Call) : Type 0 where
    always : s.wish p ≡ w → Unreleased p cs → Back s cs
    made_at : (xs ys : List Call) → cs ≡ xs ++ Make mine ∷ ys → refusal (fold called s xs) mine ≡ None → Unreleased p ys → Back s cs

  -- one call more in front
  further : (s : State) (c : Call) (cs : List Call) → (how_many ≤ p → s.wish p ≡ free) → Back (called s c) cs → Back s (c ∷ cs)
  further s c cs k (always h u) = elim (comes s c k h) [
    | inl x ↦ always x.0 (unreleased_more p c cs x.1 u)
    | inr x ↦ made_at [] cs (ap (λ y. y ∷ cs) x.0) x.1 u
  ]
  further s c cs k (made_at xs ys split done u) = made_at (c ∷ xs) ys (ap (λ zs. c ∷ zs) split) done u

  backward : (s : State) (cs : List Call) → (how_many ≤ p → s.wish p ≡ free) → (fold called s cs).wish p ≡ w → Back s cs
  backward s [] k h = always h (λ i e. none-some _ e)
  backward s (c ∷ cs) k h = further s c cs k (backward (called s c) cs (λ l. known p l s c (k l)) h)

  pub since : (cs : List Call) → ((after cs).wish p ≡ w) ↔ Since mine p cs
  since cs = (λ h. to (backward start cs (λ l. refl) h), from)
    where
      to : Back start cs → Since mine p cs
      to (always h u) = absurd (some h)
      to (made_at xs ys split done u) = record { before = xs; later = ys; split = split; done = done; kept = u }

      from : Since mine p cs → (after cs).wish p ≡ w
      from t =
          ap (λ xs. (after xs).wish p) t.split ∙ ap (λ s. s.wish p) (fold-append called start t.before (Make mine ∷ t.later))
          ∙ forward (called (after t.before) (Make mine)) t.later (makes (after t.before) t.done) t.kept

wanted_since : (cs : List Call) (p : ℕ) → ((after cs).wish p ≡ wanted) ↔ Since (Want p) p cs
wanted_since cs p = since p wanted (Want p) (λ e. cc) (λ s e. grind (arith, nat_tests)) (λ s c n h. grind (arith, nat_tests)) (λ s c k h. grind (arith, nat_tests)) cs

barred_since : (cs : List Call) (p : ℕ) → ((after cs).wish p ≡ barred) ↔ Since (Bar p) p cs
barred_since cs p = since p barred (Bar p) (λ e. cc) (λ s e. grind (arith, nat_tests)) (λ s c n h. grind (arith, nat_tests)) (λ s c k h. grind (arith, nat_tests)) cs

pub call_laws : CallLaws
call_laws = record {
  goes_on = fold-append called start;
  check_silent = λ cs ds outfit room. grind (arith, common_steps);
  offer_silent = λ cs ds. grind (arith, common_steps);
  refused_silent = λ cs ds step code e. grind (arith, common_steps);
  wanted_since = wanted_since;
  barred_since = barred_since;
  want_again = λ s part. grind (arith, nat_tests);
  bar_again = λ s part. grind (arith, nat_tests);
  struck = λ s place e. grind (arith, nat_tests, moved_down s.own place);
  few = λ cs. kept (λ s. length s.own ≤ most_own) few start cs (omega arith);
  known = λ cs p l. kept (λ s. s.wish p ≡ free) (known p l) start cs refl;
}
