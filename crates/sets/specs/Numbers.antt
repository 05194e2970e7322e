-- The set that a number stands for. Assumes nothing.
use Rattle.std.specs.Prelude.{ℕ, ◌%◌, ◌^◌}
use Rattle.std.proofs.Common.{mod-lt, pow_pos}
use Rattle.sets.specs.declared.parts.Parts.{Parts}
use Rattle.sets.specs.Width.{how_many}

-- Each number that has a digit for each part, and no more, stands for one set, and each set has such a number: `Parts::from_bits` and
-- `Parts::to_bits` promise it. Digits beyond the last part count for nothing.
unfoldable pub set_of : ℕ → Parts
set_of n = record { bits = n % 2 ^ how_many; small = mod-lt n (pow_pos how_many) }
