use Rattle.checking.specs.Checks.{by_rules, by_wishes}
use Rattle.checking.proofs.case.Case.examine_wished.Goals as goal

pub returns-in-Err : goal.returns-in-Err
returns-in-Err c = by_rules c.in-Err.ensures

pub returns-in-Err-met_by : goal.returns-in-Err-met_by
returns-in-Err-met_by c = let p = c.in-Ok.ensures in by_wishes (p.enough, p.valid) c.in-Err-met_by.ensures
