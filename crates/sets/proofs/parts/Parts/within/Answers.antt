use Rattle.sets.proofs.Sets.{decides_within}
use Rattle.sets.proofs.parts.Parts.within.Goals as goal

pub returns : goal.returns
returns c = decides_within c.args.self c.args.other
