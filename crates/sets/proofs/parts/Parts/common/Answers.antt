use Rattle.std.proofs.Common.{arith}
use Rattle.std.proofs.lemmas.Nat.Bits.{bit_at_and}
use Rattle.sets.proofs.parts.Parts.common.Goals as goal

pub returns : goal.returns
returns c p = grind (arith, bit_at_and)
