-- The parts of the mill, by number and by name. Assumes nothing.
use Rattle.std.specs.Prelude.{ℕ, ◌^◌, List, [], ◌∷◌, map, sum, codes, slice_index_or}
use Rattle.sets.specs.declared.parts.Parts.{Parts}
use Rattle.sets.specs.Numbers.{set_of}

abbrev pub mill : ℕ
mill = 0

abbrev pub axial : ℕ
axial = 1

abbrev pub cross : ℕ
cross = 2

abbrev pub gearbox : ℕ
gearbox = 3

abbrev pub brake : ℕ
brake = 4

abbrev pub floatgate : ℕ
floatgate = 5

abbrev pub liftgate : ℕ
liftgate = 6

-- the names, from part 0
abbrev pub names : List (List ℕ)
names = codes "mill" ∷ codes "axial" ∷ codes "cross" ∷ codes "gearbox" ∷ codes "brake" ∷ codes "floatgate" ∷ codes "liftgate" ∷ []

-- the name of a part: the mill has no others
abbrev pub named : ℕ → List ℕ
named p = slice_index_or names p (codes "unnamed")

-- the set of these parts
abbrev pub these : List ℕ → Parts
these ps = set_of (sum (map (λ p. 2 ^ p) ps))
