-- The value of an outfit. Assumes nothing.
use Rattle.std.specs.Prelude.{◌≡◌, ℕ, zero, suc, ◌/◌, ◌%◌, ◌^◌, ◌<◌, cond, ◌↔◌, List, Some, fold, ◌==◌}
use Rattle.std.specs.List.{slice_get}
use Rattle.sets.specs.declared.parts.Parts.{Parts}
use Rattle.sets.specs.Width.{how_many}
use Rattle.sets.specs.Members.{Has}
use Rattle.measures.specs.Scales.{Scale, SameScale}

module _ {V : Type 0} (s : Scale V) where
  -- the starting value extended by those parts of the outfit that are below n
  unfoldable pub value_below : Parts → ℕ → V
  value_below outfit zero = s.start
  value_below outfit (suc n) = cond ((outfit.bits / 2 ^ n) % 2 == 1) (s.extend (value_below outfit n) n) (value_below outfit n)

  -- the value of an outfit: `ValueLaw` says it in the words that it is meant by
  abbrev pub value : Parts → V
  value outfit = value_below outfit how_many

-- all parts of the outfit, and no other, in ascending number
pub record Ascending (outfit : Parts) (ps : List ℕ) : Type 0 where
  pub parts : (p : ℕ) → Has outfit p ↔ ((i : ℕ) × (slice_get ps i ≡ Some p))
  pub rising : (i j p q : ℕ) → i < j → slice_get ps i ≡ Some p → slice_get ps j ≡ Some q → p < q

-- the value of an outfit is the starting value extended by its parts in ascending number
pub record ValueLaw {V : Type 0} (s : Scale V) : Type 0 where
  pub parts : (outfit : Parts) → (ps : List ℕ) × Ascending outfit ps
  pub value_is : (outfit : Parts) (ps : List ℕ) → Ascending outfit ps → value s outfit ≡ fold s.extend s.start ps
  -- equal meanings give equal values
  pub alike : (t : Scale V) → SameScale s t → (outfit : Parts) → value s outfit ≡ value t outfit
