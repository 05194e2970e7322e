use Rattle.std.proofs.Common.{flat_map}
use Rattle.std.specs.Fmt.{IsPlainFormatter}
use Rattle.sets.specs.Steps.{in_order}
use Rattle.mill.specs.Printing.{spaced, parts_text}
use Rattle.mill.proofs.Writing.{Underway}
use Rattle.mill.proofs.printing.NamedDisplay.fmt.Given as goal

-- what is written and the parts that are left make the whole
abbrev pub invariant-loop-part : goal.invariant-loop-part
invariant-loop-part g l =
    IsPlainFormatter l.initial.f → Underway g.W.Write.write_str_gives l.initial.f l.f (flat_map spaced (in_order l.part-iterator.rest)) (parts_text l.self.0)
