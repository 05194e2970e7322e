-- Which kind of rule may have which heads. Assumes nothing.
use Rattle.std.specs.Prelude.{◌≡◌, ℕ, ◌<◌, ◌≤◌, Result, MatchResult}
use Rattle.sets.specs.declared.parts.Parts.{Parts}
use Rattle.sets.specs.Counting.{size}
use Rattle.refusals.specs.declared.Refusal.{Refusal}
use Rattle.refusals.specs.Refusals.{numbered}
use Rattle.checking.specs.declared.rule.Kind.{Kind}
use Rattle.checking.specs.declared.rule.Kind.TheVariants.{Plain, Choice, Exclusive}

-- the number of a kind
abbrev pub number_of : Kind → ℕ
number_of Plain = 0
number_of Choice = 1
number_of Exclusive = 2

-- the kind of this number, or refusal 21 at 0 where there is none
abbrev pub OfNumber : ℕ → Result Kind Refusal → Type 0
OfNumber number r = MatchResult r (λ kind. number ≡ number_of kind) (λ e. (2 < number) × (numbered e ≡ (21, 0)))

-- kind 0 has no head or one, kinds 1 and 2 have two or more, and there is no other kind
abbrev pub Suits : ℕ → Parts → Type 0
Suits kind heads = (kind ≤ 2) × (kind ≡ 0 → size heads ≤ 1) × (0 < kind → 2 ≤ size heads)
