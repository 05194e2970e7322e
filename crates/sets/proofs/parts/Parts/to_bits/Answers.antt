use Rattle.sets.proofs.Sets.{same_set}
use Rattle.sets.proofs.parts.Parts.to_bits.Goals as goal

pub returns-clause-back : goal.returns-clause-back
returns-clause-back c = same_set c.args.self
