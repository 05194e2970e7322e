use Rattle.std.proofs.Common.{List, ℕ, fold, sym, ap, ◌∙◌}
use Rattle.sets.specs.declared.parts.Parts.{Parts}
use Rattle.sets.specs.Steps.{in_order}
use Rattle.measures.proofs.Folding.{value_folded, first_folded, value_law}
use Rattle.measures.proofs.value.value_of.Goals as goal

pub loop-part-init : goal.loop-part-init
loop-part-init g c =
    let s = g.M.Measure.scale c.args.measure.now in
    ap (λ (t : Parts). fold s.extend c.start-value.result (in_order t)) c.into_iter-part-iterator.ensures.into_iter_gives
    ∙ ap (λ v. fold s.extend v (in_order c.args.outfit)) c.start-value.ensures ∙ sym (value_folded s c.args.outfit)

pub loop-part-preserved : goal.loop-part-preserved
loop-part-preserved g c =
    first_folded (g.M.Measure.scale c.args.measure.now) (in_order c.loop-part.part-iterator.rest) (in_order c.next.new.self.rest) c.in-Some.part c.loop-part.value c.extend-value.result _
    c.in-Some.ensures.steps.1 c.extend-value.ensures c.loop-part.invariant

pub returns : goal.returns
returns g c =
    let s = g.M.Measure.scale c.args.measure.now in
    record { value = sym (ap (λ (ps : List ℕ). fold s.extend c.loop-part.value ps) c.in-None.ensures.steps.1.0) ∙ c.loop-part.invariant; law = value_law s }
