-- How many parts there are. Assumes nothing.
use Rattle.std.specs.Prelude.{ℕ}

-- they are numbered from 0
abbrev pub how_many : ℕ
how_many = 64
