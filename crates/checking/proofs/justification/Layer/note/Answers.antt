use Rattle.std.proofs.Common.{◌∙◌}
use Rattle.std.proofs.lemmas.List.{length-set}
use Rattle.sets.proofs.Told.{known}
use Rattle.checking.proofs.Noting.{noting_more}
use Rattle.checking.proofs.justification.Layer.note.Goals as goal

pub bounds-self-part : goal.bounds-self-part
bounds-self-part c = known c.loop-part.part-iterator.rest c.in-Some.part c.in-Some.ensures.steps.0.0.0

pub loop-part-preserved : goal.loop-part-preserved
loop-part-preserved c =
    let i = c.loop-part.invariant in
    let s = c.in-Some.ensures.steps.0 in
    (noting_more c.next.new.self.rest c.in-Some.part i.1 s.0.0 s.1 i.0, length-set _ _ _ ∙ i.1, i.2)
