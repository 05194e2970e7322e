use Rattle.sets.specs.Width.{how_many}
use Rattle.sets.proofs.Sets.{none_or_some}
use Rattle.sets.proofs.parts.Parts.is_none.Goals as goal

pub returns : goal.returns
returns c = none_or_some how_many _ c.args.self.small
