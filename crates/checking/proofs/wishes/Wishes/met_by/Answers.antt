use Rattle.std.proofs.Common.{refl, arith}
use Rattle.std.proofs.lemmas.Bool.Decides.{nat_tests}
use Rattle.checking.specs.Checks.{missing, present}
use Rattle.checking.proofs.wishes.Wishes.met_by.Goals as goal

pub returns-in-Some : goal.returns-in-Some
returns-in-Some c = missing c.in-Some.part (grind (arith, nat_tests)) refl

pub returns-in-Some-lowest : goal.returns-in-Some-lowest
returns-in-Some-lowest c = present (λ q h. grind (arith, nat_tests)) c.in-Some-lowest.part (grind (arith, nat_tests)) refl
