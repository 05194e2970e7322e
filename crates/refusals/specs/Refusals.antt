-- Each refusal's number and place. Assumes nothing.
use Rattle.std.specs.Prelude.{◌≡◌, ℕ, Some, None, Ok, Option, Result, List, ◌++◌, codes, decimal, MatchResult}
use Rattle.refusals.specs.declared.Refusal.{Refusal}
use Rattle.refusals.specs.declared.Refusal.TheVariants.{UnfitKind, BookFull, OwnFull, NoOwnRule, NoPart, Clash, ShortBuffer, NoneChosen, SeveralChosen, Incompatible, NoRound, WantedMissing, BarredPresent, HeadRange, PriceLimit}

-- a number, and the place that it is about
abbrev pub Code : Type 0
Code = ℕ × ℕ

abbrev pub numbered : Refusal → Code
numbered UnfitKind = (21, 0)
numbered (BookFull length) = (22, length)
numbered (OwnFull length) = (23, length)
numbered (NoOwnRule place) = (24, place)
numbered (NoPart part) = (41, part)
numbered (Clash part) = (42, part)
numbered ShortBuffer = (51, 0)
numbered (NoneChosen rule) = (52, rule)
numbered (SeveralChosen rule) = (53, rule)
numbered (Incompatible rule) = (54, rule)
numbered (NoRound part) = (55, part)
numbered (WantedMissing part) = (56, part)
numbered (BarredPresent part) = (57, part)
numbered (HeadRange part) = (71, part)
numbered (PriceLimit part) = (72, part)

-- how it is told, as in "55 at 3"
abbrev pub told : Code → List ℕ
told code = decimal code.0 ++ (codes " at " ++ decimal code.1)

-- the answer is the refusal with this number and place
abbrev pub Refused : {X : Type 0} → Result X Refusal → Code → Type 0
Refused r code = MatchResult r (λ _. ⊥) (λ e. numbered e ≡ code)

-- a call that answers only that it is done, or a refusal
abbrev pub Answer : Type 0
Answer = Result (Unit {0}) Refusal

-- done where there is no reason to refuse, else refused with its number and place
abbrev pub Answers : Option Code → Answer → Type 0
Answers None r = r ≡ Ok tt
Answers (Some code) r = Refused r code

-- number and place tell refusals apart
abbrev pub ToldApart : Type 0
ToldApart = (e f : Refusal) → numbered e ≡ numbered f → e ≡ f
