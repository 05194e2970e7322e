-- Cards written: one for each part. Assumes nothing.
use Rattle.std.specs.Prelude.{◌≡◌, ℕ, ◌<◌, ◌≤◌, Some, Ok, Option, MatchOption, ◌≢◌}
use Rattle.std.specs.List.{slice_get}
use Rattle.std.specs.Option.{option_map}
use Rattle.sets.specs.Width.{how_many}
use Rattle.refusals.specs.Refusals.{Answer, Refused}
use Rattle.measures.specs.declared.sheet.Sheet.{Sheet}

-- every part has this card
abbrev pub Everywhere : {X : Type 0} → X → (ℕ → Option X) → Type 0
Everywhere x card = (p : ℕ) → p < how_many → card p ≡ Some x

-- the card of a part
abbrev pub on : {X : Type 0} → Sheet X → ℕ → Option X
on s p = slice_get s.cards p

-- what the card of a part shows
abbrev pub shown_on : {X V : Type 0} → (X → V) → Sheet X → ℕ → Option V
shown_on show s p = option_map show (on s p)

-- a card for each number up to the limit that it is to show, and none for any above it
abbrev pub UpTo : {X : Type 0} → ℕ → (X → ℕ → Type 0) → ℕ → Option X → Type 0
UpTo limit Shows n r = MatchOption r (limit < n) (λ x. (n ≤ limit) × Shows x n)

module _ {S X : Type 0} (card : S → ℕ → Option X) where
  -- the part has this card, and every other part's card is as it was
  pub record Put (part : ℕ) (x : X) (was is : S) : Type 0 where
    pub new : card is part ≡ Some x
    pub old : (p : ℕ) → (p ≢ part) → card is p ≡ card was p

  -- The card of a part is set by the number that it is to show: refused where there is no such part, and then, with the given code, where
  -- the number is above the limit. On a refusal all is as it was.
  pub record SetCard (limit code : ℕ) (Shows : X → ℕ → Type 0) (part n : ℕ) (was is : S) (r : Answer) : Type 0 where
    pub done : part < how_many → n ≤ limit → (r ≡ Ok tt) × ((x : X) × Shows x n × Put part x was is)
    pub no_part : how_many ≤ part → Refused r (41, part) × (is ≡ was)
    pub out_of_range : part < how_many → limit < n → Refused r (code, part) × (is ≡ was)
