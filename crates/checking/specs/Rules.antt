-- Making a rule. Assumes nothing.
use Rattle.std.specs.Prelude.{◌≡◌, ℕ, Result, MatchResult}
use Rattle.sets.specs.declared.parts.Parts.{Parts}
use Rattle.refusals.specs.declared.Refusal.{Refusal}
use Rattle.refusals.specs.Refusals.{numbered}
use Rattle.checking.specs.declared.rule.Rule.{Rule}
use Rattle.checking.specs.Kinds.{number_of, Suits}

-- the rule has just this kind and these sets
pub record Of (k : ℕ) (h n a : Parts) (rule : Rule) : Type 0 where
  pub kind : number_of rule.kind ≡ k
  pub heads : rule.heads ≡ h
  pub needs : rule.needs ≡ n
  pub absences : rule.absences ≡ a

-- where the kind fits the heads, the rule of these; else refusal 21 at 0
abbrev pub Made : ℕ → Parts → Parts → Parts → Result Rule Refusal → Type 0
Made kind heads needs absences r =
    MatchResult r (λ rule. Suits kind heads × Of kind heads needs absences rule) (λ e. (Suits kind heads → ⊥) × (numbered e ≡ (21, 0)))
