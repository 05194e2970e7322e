use Rattle.checking.proofs.Rows.{Extending}
use Rattle.checking.proofs.justification.Derivation.extend.Given as goal

abbrev pub invariant-loop-part : goal.invariant-loop-part
invariant-loop-part l = Extending l.round l.layer.lowest l.fn.layer.parts l.part-iterator.rest l.initial.self l.self
