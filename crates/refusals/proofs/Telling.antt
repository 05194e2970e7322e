-- Number and place tell refusals apart. Assumes nothing.
use Rattle.std.proofs.Common.{arith}
use Rattle.refusals.specs.Refusals.{ToldApart}

pub told_apart : ToldApart
told_apart e f same = grind arith
