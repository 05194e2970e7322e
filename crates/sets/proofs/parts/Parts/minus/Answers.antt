use Rattle.sets.specs.Width.{how_many}
use Rattle.sets.proofs.Digits.{holds_minus}
use Rattle.sets.proofs.parts.Parts.minus.Goals as goal

pub returns : goal.returns
returns c p = holds_minus how_many c.args.self.bits c.args.other.bits p c.args.self.small c.args.other.small
