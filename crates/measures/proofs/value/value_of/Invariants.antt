use Rattle.std.proofs.Common.{◌≡◌, fold}
use Rattle.sets.specs.Steps.{in_order}
use Rattle.measures.specs.Values.{value}
use Rattle.measures.proofs.value.value_of.Given as goal

-- extended by the parts that are left, it is the value of the outfit
abbrev pub invariant-loop-part : goal.invariant-loop-part
invariant-loop-part g l = let s = g.M.Measure.scale l.measure in fold s.extend l.value (in_order l.part-iterator.rest) ≡ value s l.fn.outfit
