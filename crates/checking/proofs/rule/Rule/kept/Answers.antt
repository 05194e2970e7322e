use Rattle.std.proofs.Common.{refl, arith}
use Rattle.std.proofs.lemmas.Bool.Decides.{nat_tests}
use Rattle.sets.proofs.Counts.{size_one, one_size, some_size}
use Rattle.checking.proofs.rule.Rule.kept.Goals as goal

pub returns-in-Exclusive : goal.returns-in-Exclusive
returns-in-Exclusive c =
    let chosen = c.common-chosen.result in
    let is = c.common-chosen.ensures in
    let some = c.if-is_none.ensures in (
      λ t a. ((some.0, (is some.0).0 some.1), λ k p q x y. size_one chosen (grind (arith, nat_tests)) p q ((is p).1 x) ((is q).1 y)),
      λ h.
          let one = (h (c.if-not-applies.ensures.0 refl)).1 c.in-Exclusive.is in
          let few = one_size chosen (λ p q x y. one p q ((is p).0 x) ((is q).0 y)) in
          let many = some_size chosen some.0 some.1 in
          grind (arith, nat_tests),
    )
