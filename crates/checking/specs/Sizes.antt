-- How much there may be of what. Assumes nothing.
use Rattle.std.specs.Prelude.{ℕ, ◌*◌}
use Rattle.sets.specs.Width.{how_many}

-- the rules of a book
abbrev pub most_rules : ℕ
most_rules = 240

-- the own rules of an enquiry
abbrev pub most_own : ℕ
most_own = 16

-- the rules in force at once: those of a book, and up to 16 that are added to them
abbrev pub most_in_force : ℕ
most_in_force = 256

-- the least room of a buffer for a justification: three bytes for each part that there is
abbrev pub least_room : ℕ
least_room = 3 * how_many
