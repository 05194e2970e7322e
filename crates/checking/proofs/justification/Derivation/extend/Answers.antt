use Rattle.std.proofs.Common.{refl}
use Rattle.sets.proofs.Told.{known}
use Rattle.checking.proofs.Rows.{extending_none, extending_more, extending_all}
use Rattle.checking.proofs.justification.Derivation.extend.Goals as goal

pub loop-part-init : goal.loop-part-init
loop-part-init c = rw c.into_iter-part-iterator.ensures.into_iter_gives (extending_none _ _ _ _)

pub bounds-layer-part : goal.bounds-layer-part
bounds-layer-part c = known c.loop-part.part-iterator.rest c.in-Some.part c.in-Some.ensures.steps.0.0.0

pub add-requires-clause-known : goal.add-requires-clause-known
add-requires-clause-known c = known c.loop-part.part-iterator.rest c.in-Some.part c.in-Some.ensures.steps.0.0.0

pub loop-part-preserved : goal.loop-part-preserved
loop-part-preserved c =
    let s = c.in-Some.ensures.steps.0 in
    extending_more c.loop-part.invariant c.next.new.self.rest _ refl refl s.0 s.1 c.add.ensures

pub returns : goal.returns
returns c = extending_all c.loop-part.invariant c.in-None.ensures.steps.0.0
