use Rattle.std.proofs.Common.{Ok, refl}
use Rattle.std.proofs.lemmas.Result.{err_from_is_err_and}
use Rattle.checking.proofs.Faults.{written}
use Rattle.checking.proofs.Objections.{checked}
use Rattle.checking.proofs.enquiry.Enquiry.check.Goals as goal

pub returns-in_err-derivation : goal.returns-in_err-derivation
returns-in_err-derivation g c =
    let p = err_from_is_err_and c.from_residual.result c.from_residual.ensures.1 in
    checked _ _ _ c.args.buffer.now c.args.buffer.now c.from_residual.result (rw (p.1, p.2, ← c.both-rules.ensures, ← c.from_bits.ensures.value) (c.in_err-derivation.ensures, refl {a = c.args.buffer.now}))

pub returns : goal.returns
returns g c =
    let d = c.in_ok-derivation.ensures in
    let w = c.write.ensures in
    checked _ _ _ _ c.write.new.buffer (Ok c.write.result)
    (rw (← c.both-rules.ensures, ← c.from_bits.ensures.value) ((d.0.enough, (d.0.valid, d.1)), written d.0 w.count w.buffer))
