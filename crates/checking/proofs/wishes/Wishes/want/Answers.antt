use Rattle.std.proofs.Common.{arith}
use Rattle.std.proofs.lemmas.Bool.Decides.{nat_tests}
use Rattle.checking.proofs.wishes.Wishes.want.Goals as goal

pub returns : goal.returns
returns c = grind (arith, nat_tests)
