use Rattle.std.proofs.Common.{rules}
use Rattle.mill.proofs.Filling.{of_items}
use Rattle.mill.proofs.Heading.{in_quarters, none}
use Rattle.mill.proofs.sheets.heads.Goals as goal

pub filled-requires : goal.filled-requires
filled-requires c = search (rules, none)

pub returns-clause-cards : goal.returns-clause-cards
returns-clause-cards c =
    let items = c.map.ensures.items in
    (of_items (λ f. f.pattern) c.filled.ensures items (λ p x y q k. search rules) items.each.1).card

pub returns-clause-metres : goal.returns-clause-metres
returns-clause-metres c = in_quarters
