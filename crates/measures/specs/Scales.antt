-- What a measure means. Assumes nothing.
use Rattle.std.specs.Prelude.{◌≡◌, ℕ, Bool, true, ◌⊎◌}

-- A scale over values of V: where values start, how a part extends a value, and whether one value is at most another; with the laws that
-- these owe. Nothing else may be used of a measure: in particular nothing says that extension keeps order.
pub record Scale (V : Type 0) : Type 0 where
  pub start : V
  pub extend : V → ℕ → V
  pub at_most : V → V → Bool
  pub transitive : (a b c : V) → at_most a b ≡ true → at_most b c ≡ true → at_most a c ≡ true
  -- equal or not
  pub total : (a b : V) → (at_most a b ≡ true) ⊎ (at_most b a ≡ true)
  pub grows : (v : V) (p : ℕ) → at_most v (extend v p) ≡ true

module _ {V : Type 0} where
  -- two values are level when each is at most the other
  abbrev pub Level : Scale V → V → V → Type 0
  Level s a b = (s.at_most a b ≡ true) × (s.at_most b a ≡ true)

  -- one is below the other when they are not level and it is at most it
  abbrev pub Below : Scale V → V → V → Type 0
  Below s a b = (Level s a b → ⊥) × (s.at_most a b ≡ true)

  -- equal meanings: they start alike, extend alike and compare alike. Measures of one kind with equal meanings are the same measure.
  pub record SameScale (s t : Scale V) : Type 0 where
    pub start : s.start ≡ t.start
    pub extend : (v : V) (p : ℕ) → s.extend v p ≡ t.extend v p
    pub at_most : (a b : V) → s.at_most a b ≡ t.at_most a b
