use Rattle.std.proofs.Common.{arith}
use Rattle.sets.proofs.Told.{known}
use Rattle.sets.proofs.parts.Parts.without.Goals as goal

pub returns : goal.returns
returns c p = grind (arith, known, c.none.ensures p, c.with.ensures p, c.minus.ensures p)
