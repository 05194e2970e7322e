use Rattle.sets.specs.Width.{how_many}
use Rattle.sets.proofs.Digits.{lowest_digit, less_lowest}
use Rattle.sets.proofs.Sets.{some_bits, less_any}
use Rattle.sets.proofs.parts.Parts.less_lowest.Goals as goal

pub returns : goal.returns
returns c =
    let low = lowest_digit how_many c.args.self.bits (some_bits c.args.self c.requires.0 c.requires.1) c.args.self.small in
    less_any c.args.self _ _ low (λ q. less_lowest _ c.args.self.bits q low)
