-- Which floats are heads of water. Assumes nothing.
use Rattle.std.specs.Prelude.{ℕ, ◌*◌, Bool, true, false, nat_le, Float}
use Rattle.std.specs.Float.{nan, inf, fin}
use Rattle.std.specs.Float.Ieee.{up, down}

-- from 0 to 100 and with no sign: no NaN, no infinity, no negative zero
abbrev pub within : Float → Bool
within nan = false
within (inf s) = false
within (fin true m e) = false
within (fin false m e) = nat_le (m * up e) (100 * down e)

-- the bit pattern of 100 metres, the largest head; the patterns of heads are the numbers up to it
abbrev pub largest : ℕ
largest = 0x42C80000
