use Rattle.std.proofs.Common.{◌≡◌}
use Rattle.std.specs.Fmt.{IsPlainFormatter}
use Rattle.mill.specs.Printing.{lines_text}
use Rattle.mill.proofs.Writing.{Underway}
use Rattle.mill.proofs.printing.LinesDisplay.fmt.Given as goal

-- what is written and the entries that are left make the whole
abbrev pub invariant-loop-entry : goal.invariant-loop-entry
invariant-loop-entry g l =
    (
    IsPlainFormatter l.initial.f →
    Underway g.W.Write.write_str_gives l.initial.f l.f (lines_text l.self.margin.now l.entry-iterator.iter.rest.now l.entry-iterator.n) (
    lines_text l.self.margin.now l.self.bytes.now l.self.parts
    )
    ) × (l.entry-iterator.iter.size ≡ 3)
