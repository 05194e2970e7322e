-- Parts by their numbers. Assumes nothing.
use Rattle.std.specs.Prelude.{◌≡◌, ℕ, ◌<◌, ◌≤◌, Result, MatchResult}
use Rattle.refusals.specs.declared.Refusal.{Refusal}
use Rattle.refusals.specs.Refusals.{numbered}
use Rattle.sets.specs.declared.parts.Part.{Part}
use Rattle.sets.specs.Width.{how_many}

-- the part of this number, or refusal 41 at the number where no part has it
abbrev pub PartOf : ℕ → Result Part Refusal → Type 0
PartOf number r = MatchResult r (λ part. (number < how_many) × (part.number ≡ number)) (λ e. (how_many ≤ number) × (numbered e ≡ (41, number)))
