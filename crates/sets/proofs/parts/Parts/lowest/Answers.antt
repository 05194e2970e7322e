use Rattle.std.proofs.Common.{arith}
use Rattle.std.proofs.lemmas.Grind.{common_steps}
use Rattle.sets.specs.Width.{how_many}
use Rattle.sets.proofs.Digits.{lowest_digit}
use Rattle.sets.proofs.parts.Parts.lowest.Goals as goal

pub returns-else-is_none : goal.returns-else-is_none
returns-else-is_none c = lowest_digit how_many _ (grind (arith, common_steps)) c.args.self.small
