use Rattle.std.proofs.Common.{arith}
use Rattle.std.proofs.lemmas.Float.{not_nan_f32_bits}
use Rattle.heads.proofs.Fields.{pattern_within}
use Rattle.heads.proofs.head.Head.from_pattern.Goals as goal

pub float_from_bits-result : goal.float_from_bits-result
float_from_bits-result c = not_nan_f32_bits c.args.pattern (omega arith)

pub invariant_of-result : goal.invariant_of-result
invariant_of-result c = record { ok = pattern_within c.args.pattern (omega arith) }
