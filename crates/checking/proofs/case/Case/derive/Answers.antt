use Rattle.std.proofs.Common.{suc, refl, arith}
use Rattle.std.proofs.lemmas.Bool.Decides.{when_true}
use Rattle.sets.proofs.Counts.{full}
use Rattle.sets.proofs.Told.{known}
use Rattle.checking.proofs.Turns.{turned_none, turned_more, derived_last, derived_all}
use Rattle.checking.proofs.case.Case.derive.Goals as goal

pub loop-round-init : goal.loop-round-init
loop-round-init c = (0, refl, turned_none _ _ c.none-done.result c.none-done.ensures.reached c.none-done.ensures.entries)

pub returns-then-within : goal.returns-then-within
returns-then-within c = derived_all _ _ c.loop-round.invariant.2 (c.within.ensures.0 c.if-within.true)

pub returns-then-is_none : goal.returns-then-is_none
returns-then-is_none c = derived_last _ _ c.loop-round.invariant.2 c.next_round-layer.ensures (when_true _ _ c.if-is_none.true c.is_none.ensures)

-- a part of the next round has none yet
pub extend-requires : goal.extend-requires
extend-requires c p h = ((c.next_round-layer.ensures.parts p).0 h).1

pub loop-round-preserved : goal.loop-round-preserved
loop-round-preserved c =
    let i = c.loop-round.invariant in
    (suc i.0, omega arith, turned_more _ _ i.2 c.next_round-layer.ensures c.extend.new.self c.if-is_none.ensures (rw (← i.1) c.extend.ensures))

-- after as many rounds as there are parts, every part is reached
pub returns : goal.returns
returns c =
    let i = c.loop-round.invariant in
    derived_all _ _ i.2 (λ p h. full c.loop-round.done.reached (omega (arith, i.1, i.2.many)) p (known c.args.self.outfit p h))
