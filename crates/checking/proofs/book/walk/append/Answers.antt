use Rattle.std.proofs.Common.{◌<◌, length, arith, sym}
use Rattle.std.specs.List.{slice_get}
use Rattle.std.proofs.lemmas.Grind.{common_steps}
use Rattle.std.proofs.lemmas.Option.{slice_get_within}
use Rattle.lists.specs.Held.{held}
use Rattle.lists.proofs.Nths.{take_nth}
use Rattle.lists.proofs.Holding.{pushed}
use Rattle.checking.specs.Sizes.{most_in_force}
use Rattle.checking.proofs.book.walk.append.Goals as goal

pub loop-place-preserved : goal.loop-place-preserved
loop-place-preserved g c =
    let all = (g.B.Book.meaning c.args.book.now).rules in
    let is = sym {b = slice_get all c.loop-place.place} c.in-Some.ensures in
    let within = slice_get_within all c.loop-place.place c.in-Some.rule is in
    let e : length (held c.loop-place.rules) < most_in_force = grind (arith, common_steps) in
    let put = pushed c.in-Some.rule c.loop-place.rules c.push.new.self c.push.result e c.push.ensures in
    let more = take_nth all c.loop-place.place c.in-Some.rule is in
    grind (arith, common_steps)
