use Rattle.std.proofs.Common.{refl}
use Rattle.std.proofs.lemmas.Result.{err_from_is_err_and}
use Rattle.checking.specs.Verdicts.{roundless}
use Rattle.checking.proofs.Faults.{lowest_roundless, all_derived}
use Rattle.checking.proofs.case.Case.examine.Goals as goal

pub returns-in_err-keeps : goal.returns-in_err-keeps
returns-in_err-keeps c =
    let p = err_from_is_err_and c.from_residual.result c.from_residual.ensures.1 in
    rw (p.1, p.2) (c.in_err-keeps.ensures c.args.room c.if-room-lt-ROOM.false)

pub returns-in-Some : goal.returns-in-Some
returns-in-Some c =
    let left = rw c.reached.ensures at c.minus-roundless.ensures in
    roundless c.if-room-lt-ROOM.false c.in_ok-keeps.ensures c.in-Some.part (lowest_roundless c.minus-roundless.result c.derive-derivation.ensures left c.in-Some.part c.in-Some.ensures) refl

pub returns-in-None : goal.returns-in-None
returns-in-None c =
    let left = rw c.reached.ensures at c.minus-roundless.ensures in
    all_derived c.minus-roundless.result c.derive-derivation.ensures left c.args.room c.if-room-lt-ROOM.false c.in_ok-keeps.ensures c.in-None.ensures
