use Rattle.sets.proofs.Sets.{decides_apart}
use Rattle.sets.proofs.parts.Parts.apart.Goals as goal

pub returns : goal.returns
returns c = decides_apart c.args.self c.args.other
