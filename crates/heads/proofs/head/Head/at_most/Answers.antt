use Rattle.std.proofs.Common.{◌∙◌}
use Rattle.heads.proofs.Comparing.{same_le}
use Rattle.heads.proofs.Ordering.{head_order}
use Rattle.heads.proofs.head.Head.at_most.Goals as goal

pub returns : goal.returns
returns c = record { value = c.le.ensures ∙ same_le c.args.self.metres c.args.other.metres; order = head_order }
