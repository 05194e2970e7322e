use Rattle.std.proofs.Common.{Ok, refl}
use Rattle.std.proofs.lemmas.Result.{err_from_is_err_and}
use Rattle.checking.proofs.Faults.{written}
use Rattle.checking.proofs.Single.{judged}
use Rattle.checking.proofs.checker.judge.Goals as goal

pub returns-in_err-derivation : goal.returns-in_err-derivation
returns-in_err-derivation g c =
    let p = err_from_is_err_and c.from_residual.result c.from_residual.ensures.1 in
    judged _ _ _ _ _ (rw (p.1, p.2, ← c.in_force-rules.ensures, ← c.from_bits.ensures.value) (c.in_err-derivation.ensures, refl {a = c.args.buffer.now}))

pub returns : goal.returns
returns g c =
    let d = c.in_ok-derivation.ensures in
    let w = c.write.ensures in
    judged _ _ _ c.write.new.buffer (Ok c.write.result) (rw (← c.in_force-rules.ensures, ← c.from_bits.ensures.value) ((d.enough, d.valid), written d w.count w.buffer))
