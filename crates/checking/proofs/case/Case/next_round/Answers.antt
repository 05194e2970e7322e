use Rattle.std.proofs.Common.{length, ap, arith}
use Rattle.lists.proofs.Holding.{read}
use Rattle.checking.proofs.Noting.{sofar_more, sofar_all}
use Rattle.checking.proofs.case.Case.next_round.Goals as goal

pub loop-i-preserved : goal.loop-i-preserved
loop-i-preserved c =
    let here = read _ _ _ _ c.items-rule-items.ensures c.loop-i-test.true c.rule-item.is in
    sofar_more c.rule-item.result c.given.result c.union.result c.note.new.self.parts here c.given.ensures c.union.ensures c.minus-fresh.ensures c.note.ensures.parts c.note.ensures.noted c.loop-i.invariant

pub returns : goal.returns
returns c = sofar_all (omega (arith, ap length c.items-rule-items.ensures)) c.loop-i.invariant
