use Rattle.std.proofs.Common.{rules}
use Rattle.std.proofs.lemmas.List.{take_all, length-map}
use Rattle.mill.proofs.Filling.{one_more}
use Rattle.mill.proofs.sheets.filled.Goals as goal

pub loop-part-preserved : goal.loop-part-preserved
loop-part-preserved g c = search (rules, one_more)

pub returns : goal.returns
returns g c = search (rules, take_all, length-map)
