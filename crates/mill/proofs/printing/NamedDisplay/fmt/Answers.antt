use Rattle.std.proofs.Common.{rules, List, ℕ, [], ◌++◌, flat_map, ap}
use Rattle.std.specs.Prelude.{codes}
use Rattle.sets.specs.declared.parts.Parts.{Parts}
use Rattle.sets.specs.Steps.{in_order}
use Rattle.mill.specs.Printing.{spaced}
use Rattle.mill.proofs.Writing.{piece_in, all_in, part_first}
use Rattle.mill.proofs.printing.NamedDisplay.fmt.Goals as goal

pub loop-part-init : goal.loop-part-init
loop-part-init g c = λ plain. ([], search rules, ap (λ (t : Parts). flat_map spaced (in_order t)) c.into_iter-part-iterator.ensures.into_iter_gives)

pub loop-part-preserved : goal.loop-part-preserved
loop-part-preserved g c =
    let piece : List ℕ = codes " " ++ c.name.result.now in
    λ plain. piece_in _ c.args.f.now c.loop-part.f _ _ c.write.new.self piece _ (c.loop-part.invariant plain) (search rules)
    (part_first _ _ piece c.in-Some.part c.in-Some.ensures.steps.1 (ap (λ x. codes " " ++ x) c.name.ensures))

pub returns-clause-writes : goal.returns-clause-writes
returns-clause-writes g c = λ plain ok.
    all_in _ c.args.f.now c.loop-part.f _ _ (c.loop-part.invariant plain) (ap (flat_map spaced) c.in-None.ensures.steps.1.0)
