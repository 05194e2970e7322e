use Rattle.mill.proofs.Suiting.{made, numbers, all_fit}
use Rattle.mill.proofs.rules.book.Goals as goal

pub unwrap-rule-requires : goal.unwrap-rule-requires
unwrap-rule-requires c = made numbers c.loop-kind.kind-index _ _ _ _ _ all_fit c.loop-kind-test.true c.from_bits.ensures.value c.of.ensures
