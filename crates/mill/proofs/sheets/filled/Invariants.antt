use Rattle.mill.proofs.Filling.{FilledBelow}
use Rattle.mill.proofs.sheets.filled.Given as goal

abbrev pub invariant-loop-part : goal.invariant-loop-part
invariant-loop-part g l = FilledBelow g.C.Card.shown g.C.Card.Shows g.C.Card.number_of l.fn.numbers l.part l.sheet
