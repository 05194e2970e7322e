-- Sheets of cards, one for each part, as measures. Assumes nothing.
use Rattle.std.specs.Prelude.{◌≡◌, ℕ, ◌+◌, ◌-◌, ◌^◌, min, leb, Bool, true, ◌⊎◌, Some, None, Option, from_bits}
use Rattle.std.proofs.Common.{inl, inr, arith}
use Rattle.std.specs.Float.{binary32}
use Rattle.std.specs.Option.{ForSome}
use Rattle.std.proofs.lemmas.Bool.{leb-true, le-leb, cases_lt}
use Rattle.heads.specs.declared.head.Head.{Head}
use Rattle.heads.specs.Range.{largest}
use Rattle.heads.specs.Orders.{zero_head, at_most, larger}
use Rattle.heads.proofs.Ordering.{head_transitive, head_total, head_grows}
use Rattle.refusals.specs.Refusals.{Answer}
use Rattle.measures.specs.declared.pence.Pence.{Pence}
use Rattle.measures.specs.declared.sheet.Sheet.{Sheet}
use Rattle.measures.specs.Scales.{Scale}
use Rattle.measures.specs.Cards.{most_pence}
use Rattle.measures.specs.Writing.{shown_on, SetCard}

-- how cards of X join values of V: under the laws of a scale, and no value is above what it makes with a card
pub record Joining (X V : Type 0) : Type 0 where
  pub start : V
  pub join : V → X → V
  pub at_most : V → V → Bool
  pub transitive : (a b c : V) → at_most a b ≡ true → at_most b c ≡ true → at_most a c ≡ true
  pub total : (a b : V) → (at_most a b ≡ true) ⊎ (at_most b a ≡ true)
  pub grows : (v : V) (x : X) → at_most v (join v x) ≡ true

module _ {X V : Type 0} (j : Joining X V) where
  -- a part with no card extends nothing
  abbrev pub joined : V → Option X → V
  joined v None = v
  joined v (Some x) = j.join v x

  pub joined_grows : (v : V) (x : Option X) → j.at_most v (joined v x) ≡ true
  joined_grows v None = elim (j.total v v) [ inl h ↦ h | inr h ↦ h ]
  joined_grows v (Some x) = j.grows v x

  -- the scale that extends a value by the card of the part
  abbrev pub scale_of : (ℕ → Option X) → Scale V
  scale_of card = record {
    start = j.start;
    extend = λ v p. joined v (card p);
    at_most = j.at_most;
    transitive = j.transitive;
    total = j.total;
    grows = λ v p. joined_grows v (card p);
  }

-- the largest total of prices, in pence
abbrev pub most_total : ℕ
most_total = 2 ^ 64 - 1

-- prices are added, up to the largest total
abbrev pub adding : Joining ℕ ℕ
adding = record {
  start = 0;
  join = λ v x. v + min x (most_total - v);
  at_most = leb;
  transitive = λ a b c h k. le-leb a c (omega (arith, leb-true a b h, leb-true b c k));
  total = λ a b. elim (cases_lt a b) [ inl l ↦ inl (le-leb a b (omega arith)) | inr l ↦ inr (le-leb b a l) ];
  grows = λ v x. le-leb v (v + min x (most_total - v)) (omega arith);
}

-- of heads the larger is taken
abbrev pub raising : Joining Head Head
raising = record { start = zero_head; join = larger; at_most = at_most; transitive = head_transitive; total = head_total; grows = head_grows }

-- the price on the card of a part, in pence
abbrev pub price_on : Sheet Pence → ℕ → Option ℕ
price_on = shown_on (λ c. c.pence)

-- the head on the card of a part
abbrev pub head_on : Sheet Head → ℕ → Option Head
head_on = shown_on (λ h. h)

abbrev pub price_scale : Sheet Pence → Scale ℕ
price_scale s = scale_of adding (price_on s)

abbrev pub head_scale : Sheet Head → Scale Head
head_scale s = scale_of raising (head_on s)

-- where the part has a card, its price is added, up to the largest total
abbrev pub Adds : Sheet Pence → ℕ → ℕ → ℕ → Type 0
Adds s v p r = ForSome (price_on s p) (λ x. r ≡ min (v + x) most_total)

abbrev pub SetPrice : ℕ → ℕ → Sheet Pence → Sheet Pence → Answer → Type 0
SetPrice = SetCard price_on most_pence 72 (λ x pence. x ≡ pence)

abbrev pub SetHead : ℕ → ℕ → Sheet Head → Sheet Head → Answer → Type 0
SetHead = SetCard head_on largest 71 (λ h pattern. h.metres ≡ from_bits binary32 pattern)
