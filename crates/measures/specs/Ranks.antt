-- How two values compare. Assumes nothing.
use Rattle.std.specs.Prelude.{◌≡◌, ◌↔◌}
use Rattle.std.specs.declared.cmp.Ordering.TheVariants.{Less, Equal, Greater}
use Rattle.std.specs.declared.cmp.Ordering.{Ordering}
use Rattle.measures.specs.Scales.{Scale, Level, Below}

-- less exactly where a is below b, equal exactly where they are level, greater exactly where b is below a
pub record Ranks {V : Type 0} (s : Scale V) (a b : V) (r : Ordering) : Type 0 where
  pub less : (r ≡ Less) ↔ Below s a b
  pub equal : (r ≡ Equal) ↔ Level s a b
  pub greater : (r ≡ Greater) ↔ Below s b a
