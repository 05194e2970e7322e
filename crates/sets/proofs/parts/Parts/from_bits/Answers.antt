use Rattle.std.proofs.Common.{sym}
use Rattle.sets.proofs.Sets.{same_set}
use Rattle.sets.proofs.parts.Parts.from_bits.Goals as goal

pub returns-clause-value : goal.returns-clause-value
returns-clause-value c = sym (same_set _)
