use Rattle.std.proofs.Common.{rules, ◌∙◌, Some, ap}
use Rattle.mill.proofs.Filling.{of_items}
use Rattle.mill.proofs.sheets.prices.Goals as goal

pub returns : goal.returns
returns c p l =
    let items = c.map.ensures.items in
    let s = (of_items (λ f. f.pence) c.filled.ensures items (λ p x y q k. search rules) items.each.1).card p l in
    s.1 ∙ ap Some s.2
