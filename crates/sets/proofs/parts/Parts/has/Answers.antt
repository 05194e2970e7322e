use Rattle.std.proofs.Common.{arith}
use Rattle.std.proofs.lemmas.Bool.Decides.{nat_tests}
use Rattle.sets.proofs.Told.{known}
use Rattle.sets.proofs.parts.Parts.has.Goals as goal

pub returns-else-part-lt-PARTS : goal.returns-else-part-lt-PARTS
returns-else-part-lt-PARTS c = grind (arith, nat_tests, known)
