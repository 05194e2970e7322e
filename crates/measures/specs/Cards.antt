-- The limit of a price card. Assumes nothing.
use Rattle.std.specs.Prelude.{ℕ}

-- in pence
abbrev pub most_pence : ℕ
most_pence = 1000000000
