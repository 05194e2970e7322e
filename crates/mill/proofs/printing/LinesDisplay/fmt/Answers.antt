use Rattle.std.proofs.Common.{rules, ◌++◌, ap, ◌∙◌, arith}
use Rattle.std.specs.Prelude.{decimal, codes, slice_index}
use Rattle.mill.proofs.Writing.{piece_in, all_in, line_first, no_line, line_pieces}
use Rattle.mill.specs.Parts.{named}
use Rattle.mill.proofs.printing.LinesDisplay.fmt.Goals as goal

pub loop-entry-preserved-then-entry-lt4 : goal.loop-entry-preserved-then-entry-lt4
loop-entry-preserved-then-entry-lt4 g c =
    let steps = c.in-Some.ensures.steps in
    let margin = c.args.self.now.margin.now in
    let x = c.in-Some.entry.now in
    let round = decimal (slice_index x 1) in
    let rule = decimal (slice_index x 2) in (
      λ plain. piece_in _ c.args.f.now c.loop-entry.f _ _ c.writeln.new.self (margin ++ (c.name.result.now ++ (codes " " ++ (round ++ (codes " " ++ (rule ++ codes "\n")))))) _
          (c.loop-entry.invariant.0 plain) (search rules) (line_first margin x _ _ _ _ _ (
          ap (λ y. margin ++ (y ++ (codes " " ++ (round ++ (codes " " ++ (rule ++ codes "\n")))))) c.name.ensures ∙
          line_pieces margin (named (slice_index x 0)) (codes " ") round rule (codes "\n")
          ) steps.0.1.0 (steps.0.1.1 ∙ c.loop-entry.invariant.1) steps.1),
      steps.0.0 ∙ c.loop-entry.invariant.1,
    )

pub returns-clause-writes : goal.returns-clause-writes
returns-clause-writes g c = λ plain ok.
    all_in _ c.args.f.now c.loop-entry.f _ _ (c.loop-entry.invariant.0 plain) (no_line c.args.self.now.margin.now _ _ (λ l. omega (arith, (c.in-None.ensures.steps l).1.0, c.loop-entry.invariant.1)))
