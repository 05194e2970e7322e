use Rattle.std.proofs.Common.{arith, rules}
use Rattle.std.proofs.lemmas.Grind.{common_steps}
use Rattle.sets.proofs.Counts.{size_less}
use Rattle.sets.proofs.Order.{none_in_order, first_in_order}
use Rattle.sets.proofs.Sets.{less_part}
use Rattle.sets.proofs.parts.iter.IntoIterIterator.next.Goals as goal

pub returns-in_err-part-clause-steps : goal.returns-in_err-part-clause-steps
returns-in_err-part-clause-steps c = let none = none_in_order c.args.self.now.rest c.in_err-part.ensures in search rules

pub less_lowest-self-requires : goal.less_lowest-self-requires
less_lowest-self-requires c = (c.in_ok-part.part, c.in_ok-part.ensures.0)

pub returns-clause-steps : goal.returns-clause-steps
returns-clause-steps c =
    let low = c.in_ok-part.ensures in
    let less = less_part c.args.self.now.rest c.less_lowest-self.result c.in_ok-part.part low c.less_lowest-self.ensures in
    ((low, less), first_in_order c.args.self.now.rest c.less_lowest-self.result c.in_ok-part.part low less)

pub returns-clause-goes : goal.returns-clause-goes
returns-clause-goes c =
    let low = c.in_ok-part.ensures in
    let less = less_part c.args.self.now.rest c.less_lowest-self.result c.in_ok-part.part low c.less_lowest-self.ensures in
    let smaller = size_less c.args.self.now.rest c.less_lowest-self.result c.in_ok-part.part low.0 less in
    grind (arith, common_steps)
