-- What sets of parts and justifications look like in print. Assumes nothing.
use Rattle.std.specs.Prelude.{ℕ, suc, List, [], ◌∷◌, ◌++◌, flat_map, codes, decimal}
use Rattle.sets.specs.declared.parts.Parts.{Parts}
use Rattle.sets.specs.Steps.{in_order}
use Rattle.mill.specs.Parts.{named}

-- a name after a space
abbrev pub spaced : ℕ → List ℕ
spaced p = codes " " ++ named p

-- the parts of a set in ascending number
abbrev pub parts_text : Parts → List ℕ
parts_text s = flat_map spaced (in_order s)

-- an entry of a justification, after a margin: the name of the part, its round and its rule
abbrev pub line_text : List ℕ → ℕ → ℕ → ℕ → List ℕ
line_text margin part round rule = margin ++ named part ++ codes " " ++ decimal round ++ codes " " ++ decimal rule ++ codes "\n"

-- the first so many entries of a buffer, three bytes each, as far as there are bytes
unfoldable pub lines_text : List ℕ → List ℕ → ℕ → List ℕ
lines_text margin (part ∷ round ∷ rule ∷ bytes) (suc parts) = line_text margin part round rule ++ lines_text margin bytes parts
lines_text margin bytes parts = []
