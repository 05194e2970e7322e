-- The rules of the mill can be made. Assumes nothing.
use Rattle.std.proofs.Common.{rules, ◌≡◌, ℕ, zero, suc, ◌<◌, ◌≤◌, [], ◌∷◌, length, get_or, List, lit≤, arith}
use Rattle.std.specs.Prelude.{Result, IsOk, Ok, Err}
use Rattle.std.specs.List.{AllByRecursion}
use lib.Count.{ones}
use Rattle.sets.specs.Numbers.{set_of}
use Rattle.sets.specs.declared.parts.Parts.{Parts}
use Rattle.sets.specs.Counting.{size}
use Rattle.refusals.specs.declared.Refusal.{Refusal}
use Rattle.checking.specs.declared.rule.Kind.{Kind}
use Rattle.checking.specs.declared.rule.Kind.TheVariants.{Plain, Choice, Exclusive}
use Rattle.checking.specs.declared.rule.Rule.{Rule}
use Rattle.checking.specs.Kinds.{number_of, Suits}
use Rattle.checking.specs.Rules.{Made}

-- a rule by its kind and the numbers of its heads, needs and absences
abbrev pub Numbers : Type 0
Numbers = Kind × ℕ × ℕ × ℕ

-- its kind fits its heads
abbrev pub Fit : Numbers → Type 0
Fit r = Suits (number_of r.0) (set_of r.1)

requires : (h n a : ℕ) → size (set_of h) ≤ 1 → Fit (Plain, h, n, a)
requires h n a few = (lit≤ tt, λ _. few, λ l. absurd (let z : ⊥ = omega (arith, l) in z))

chooses : (h n a : ℕ) → 2 ≤ size (set_of h) → Fit (Choice, h, n, a)
chooses h n a many = (lit≤ tt, λ e. absurd (let z : ⊥ = omega (arith, e) in z), λ _. many)

chooses_one : (h n a : ℕ) → 2 ≤ size (set_of h) → Fit (Exclusive, h, n, a)
chooses_one h n a many = (lit≤ tt, λ e. absurd (let z : ⊥ = omega (arith, e) in z), λ _. many)

fit_at : (rows : List Numbers) (i : ℕ) (d : Numbers) → i < length rows → AllByRecursion Fit rows → Fit (get_or rows i d)
fit_at [] i d l fit = absurd (let z : ⊥ = omega (arith, l) in z)
fit_at (r ∷ rows) zero d l fit = fit.0
fit_at (r ∷ rows) (suc i) d l fit = fit_at rows i d (omega (arith, l)) fit.1

abbrev pub numbers : List Numbers
numbers = (Plain, 1, 0, 0) ∷ (Choice, 6, 1, 0) ∷ (Exclusive, 96, 1, 0) ∷ (Plain, 8, 4, 0) ∷ (Plain, 16, 2, 8) ∷ (Plain, 0, 36, 0) ∷ []

pub all_fit : AllByRecursion Fit numbers
unfolding set_of ones
all_fit = (
  requires 1 0 0 (lit≤ tt),
  (
    chooses 6 1 0 (lit≤ tt),
    (
      chooses_one 96 1 0 (lit≤ tt),
      (requires 8 4 0 (lit≤ tt), (requires 16 2 8 (lit≤ tt), (requires 0 36 0 (lit≤ tt), tt))),
    ),
  ),
)

-- where the kinds of all rows fit, the rule of each is made
pub made : (rows : List Numbers) (i : ℕ) (d : Numbers) (heads needs absences : Parts) (r : Result Rule Refusal) → AllByRecursion Fit rows → i < length rows
    → heads ≡ set_of (get_or rows i d).1 → Made (number_of (get_or rows i d).0) heads needs absences r → IsOk r
made rows i d heads needs absences (Ok rule) all l same m = search rules
made rows i d heads needs absences (Err e) all l same m = absurd (m.0 (rw same (fit_at rows i d l all)))
