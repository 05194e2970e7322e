-- Own rules and wishes, read off a list of calls alone. Assumes nothing.
use Rattle.std.specs.Prelude.{◌≡◌, ℕ, ◌≤◌, cond, ◌↔◌, List, [], ◌∷◌, ◌++◌, length, Some, None, fold, Option, ◌==◌, ◌≢◌, nat_lt}
use Rattle.std.specs.List.{slice_get}
use Rattle.sets.specs.Width.{how_many}
use Rattle.lists.specs.Held.{without, MovedDown}
use Rattle.refusals.specs.Refusals.{Code}
use Rattle.checking.specs.declared.call.Call.{Call}
use Rattle.checking.specs.declared.call.Call.TheVariants.{Make, Check, Offer}
use Rattle.checking.specs.declared.call.Step.{Step}
use Rattle.checking.specs.declared.call.Step.TheVariants.{Add, Strike, Want, Bar, Release}
use Rattle.checking.specs.declared.rule.Rule.{Rule}
use Rattle.checking.specs.Sizes.{most_own}

-- how a part is wished: never both wanted and barred
pub data Wish : Type 0 where
  free wanted barred : Wish

-- what an enquiry holds besides its book and its measure: own rules, and a wish for each part
pub record State : Type 0 where
  pub own : List Rule
  pub wish : ℕ → Wish

-- no own rules and no wishes
abbrev pub start : State
start = record { own = []; wish = λ p. free }

-- refused with 41 where there is no such part
abbrev pub with_part : ℕ → Option Code → Option Code
with_part part other = cond (nat_lt part how_many) other (Some (41, part))

-- wanting is refused with 42 at a barred part, barring at a wanted one
abbrev pub clash_wanting : Wish → ℕ → Option Code
clash_wanting free part = None
clash_wanting wanted part = None
clash_wanting barred part = Some (42, part)

abbrev pub clash_barring : Wish → ℕ → Option Code
clash_barring free part = None
clash_barring wanted part = Some (42, part)
clash_barring barred part = None

-- whether a step is refused, by number and place: 23 where there are 16 own rules, 24 where none stands at the place, 41 before 42
abbrev pub refusal : State → Step → Option Code
refusal s (Add rule) = cond (nat_lt (length s.own) most_own) None (Some (23, most_own))
refusal s (Strike place) = cond (nat_lt place (length s.own)) None (Some (24, place))
refusal s (Want part) = with_part part (clash_wanting (s.wish part) part)
refusal s (Bar part) = with_part part (clash_barring (s.wish part) part)
refusal s (Release part) = with_part part None

-- the part is wished so, and all others as they were
abbrev pub wished : ℕ → Wish → (ℕ → Wish) → ℕ → Wish
wished part w old p = cond (p == part) w (old p)

-- what a step makes of a state where it is not refused: the rule stands last; the own rule at the place is out, and later ones have moved
-- down by one; the part is wanted, barred or neither
abbrev pub made : State → Step → State
made s (Add rule) = record { own = s.own ++ rule ∷ []; wish = s.wish }
made s (Strike place) = record { own = without place s.own; wish = s.wish }
made s (Want part) = record { own = s.own; wish = wished part wanted s.wish }
made s (Bar part) = record { own = s.own; wish = wished part barred s.wish }
made s (Release part) = record { own = s.own; wish = wished part free s.wish }

-- the old where there is a refusal, else the new
abbrev pub settled : {X : Type 0} → Option Code → X → X → X
settled None old new = new
settled (Some code) old new = old

-- a refused step changes nothing
abbrev pub stepped : State → Step → State
stepped s step = settled (refusal s step) s (made s step)

-- a check and an offer change nothing
abbrev pub called : State → Call → State
called s (Make step) = stepped s step
called s (Check outfit room) = s
called s Offer = s

-- after a list of calls on a newly opened enquiry: none at the start, then call after call
abbrev pub after : List Call → State
after calls = fold called start calls

-- the step was made and done at some call of the list, and the part has not been released since
pub record Since (step : Step) (part : ℕ) (calls : List Call) : Type 0 where
  pub before : List Call
  pub later : List Call
  pub split : calls ≡ before ++ Make step ∷ later
  pub done : refusal (after before) step ≡ None
  pub kept : (i : ℕ) → slice_get later i ≢ Some (Make (Release part))

-- what holds of all lists of calls
pub record CallLaws : Type 0 where
  -- more calls go on from what the first ones give
  pub goes_on : (cs ds : List Call) → after (cs ++ ds) ≡ fold called (after cs) ds
  -- a check, an offer and a refused step can be left out anywhere
  pub check_silent : (cs ds : List Call) (outfit room : ℕ) → after (cs ++ Check outfit room ∷ ds) ≡ after (cs ++ ds)
  pub offer_silent : (cs ds : List Call) → after (cs ++ Offer ∷ ds) ≡ after (cs ++ ds)
  pub refused_silent : (cs ds : List Call) (step : Step) (code : Code) → refusal (after cs) step ≡ Some code → after (cs ++ Make step ∷ ds) ≡ after (cs ++ ds)
  -- a part is wanted exactly when a want of it was done and it has not been released since; and barred likewise
  pub wanted_since : (cs : List Call) (p : ℕ) → ((after cs).wish p ≡ wanted) ↔ Since (Want p) p cs
  pub barred_since : (cs : List Call) (p : ℕ) → ((after cs).wish p ≡ barred) ↔ Since (Bar p) p cs
  -- wanting or barring a part once more changes nothing
  pub want_again : (s : State) (part : ℕ) → stepped (stepped s (Want part)) (Want part) ≡ stepped s (Want part)
  pub bar_again : (s : State) (part : ℕ) → stepped (stepped s (Bar part)) (Bar part) ≡ stepped s (Bar part)
  -- a strike that is done takes one rule out, and the later ones move down by one
  pub struck : (s : State) (place : ℕ) → refusal s (Strike place) ≡ None → MovedDown place s.own (stepped s (Strike place)).own
  -- there are never more than 16 own rules, and nothing is wished of a part that there is not
  pub few : (cs : List Call) → length (after cs).own ≤ most_own
  pub known : (cs : List Call) (p : ℕ) → how_many ≤ p → (after cs).wish p ≡ free
