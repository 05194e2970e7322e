use Rattle.std.proofs.Common.{◌≡◌, ap, length, inl, inr, arith}
use Rattle.std.proofs.lemmas.Bool.{cases_eq}
use Rattle.std.proofs.lemmas.Bool.Decides.{not_from_Decides}
use Rattle.std.proofs.lemmas.Option.{slice_get_within}
use Rattle.lists.proofs.Holding.{read}
use Rattle.checking.specs.Verdicts.{broken}
use Rattle.checking.proofs.case.Case.keeps.Goals as goal

pub loop-i-preserved : goal.loop-i-preserved
loop-i-preserved c j s l e = elim (cases_eq j c.loop-i.i) [
  | inl same ↦
      let here = read _ _ _ _ c.items-rule-items.ensures c.loop-i-test.true c.rule-item.is in
      let is : s ≡ c.rule-item.result = cc (same, e, here) in
      rw is (c.kept.ensures.0 c.if-not-kept.false)
  | inr other ↦ c.loop-i.invariant j s (omega (arith, other)) e
]

pub returns-then-not-kept : goal.returns-then-not-kept
returns-then-not-kept c room l =
    let here = read _ _ _ _ c.items-rule-items.ensures c.loop-i-test.true c.rule-item.is in
    broken l c.loop-i.i c.rule-item.result (here, not_from_Decides c.kept.result c.kept.ensures c.if-not-kept.true, c.loop-i.invariant) c.blame.ensures

pub returns : goal.returns
returns c i r e = c.loop-i.invariant i r (omega (arith, slice_get_within _ i r e, ap length c.items-rule-items.ensures)) e
