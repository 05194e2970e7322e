-- The value of an outfit. Assumes nothing.
use Rattle.std.proofs.Common.{◌≡◌, ℕ, zero, suc, List, ◌∷◌, fold, sym, refl, ap, ◌∙◌, arith}
use Rattle.std.proofs.lemmas.Bool.Decides.{nat_tests}
use Rattle.std.proofs.lemmas.List.Sums.{fold_push}
use Rattle.sets.specs.declared.parts.Parts.{Parts}
use Rattle.sets.specs.Width.{how_many}
use Rattle.sets.specs.Steps.{parts_below, in_order}
use Rattle.measures.specs.Scales.{Scale, SameScale}
use Rattle.measures.specs.Values.{value_below, value, ValueLaw}
use Rattle.measures.proofs.Ascents.{ascending, one_ascent}

module _ {V : Type 0} (s : Scale V) (outfit : Parts) where
  below_folded : (n : ℕ) → value_below s outfit n ≡ fold s.extend s.start (parts_below outfit n)
  unfolding value_below parts_below
  below_folded zero = refl
  below_folded (suc n) = grind (arith, nat_tests, below_folded n, fold_push s.extend s.start (parts_below outfit n) n)

  pub value_folded : value s outfit ≡ fold s.extend s.start (in_order outfit)
  value_folded = below_folded how_many

  pub below_alike : (t : Scale V) → SameScale s t → (n : ℕ) → value_below s outfit n ≡ value_below t outfit n
  unfolding value_below
  below_alike t same zero = same.start
  below_alike t same (suc n) = grind (arith, nat_tests, below_alike t same n, same.extend (value_below s outfit n) n)

-- a part that comes first among those that are left extends the value
pub first_folded : {V : Type 0} (s : Scale V) (left less : List ℕ) (part : ℕ) (v w whole : V) → left ≡ part ∷ less → w ≡ s.extend v part → fold s.extend v left ≡ whole → fold s.extend w less ≡ whole
first_folded s left less part v w whole first new is = ap (λ x. fold s.extend x less) new ∙ sym (ap (fold s.extend v) first) ∙ is

pub value_law : {V : Type 0} (s : Scale V) → ValueLaw s
value_law s = record {
  parts = λ outfit. (in_order outfit, ascending outfit);
  value_is = λ outfit ps a. value_folded s outfit ∙ ap (fold s.extend s.start) (sym (one_ascent outfit ps a));
  alike = λ t same outfit. below_alike s outfit t same how_many;
}
