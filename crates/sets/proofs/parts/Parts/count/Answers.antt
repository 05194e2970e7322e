use Rattle.sets.proofs.Counts.{counting}
use Rattle.sets.proofs.parts.Parts.count.Goals as goal

pub returns-clause-counting : goal.returns-clause-counting
returns-clause-counting c = counting
