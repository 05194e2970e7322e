-- Going through a set, part by part. Assumes nothing.
use Rattle.std.specs.Prelude.{ℕ, zero, suc, ◌/◌, ◌%◌, ◌^◌, cond, List, [], ◌∷◌, ◌++◌, Option, MatchOption, ◌==◌, ◌≢◌}
use Rattle.sets.specs.declared.parts.Parts.{Parts}
use Rattle.sets.specs.Width.{how_many}
use Rattle.sets.specs.Members.{Has, Empty, Holds, Lowest}

-- one step: the lowest part comes, and the others are left; where there is none, none comes and none is left
abbrev pub LowestFirst : Parts → Option ℕ → Parts → Type 0
LowestFirst was part is = MatchOption part (Empty was × Empty is) (λ p. Lowest (Has was) p × Holds is (λ q. Has was q × (q ≢ p)))

-- the parts below a number, in ascending number
unfoldable pub parts_below : Parts → ℕ → List ℕ
parts_below s zero = []
parts_below s (suc n) = cond ((s.bits / 2 ^ n) % 2 == 1) (parts_below s n ++ n ∷ []) (parts_below s n)

-- all parts, in ascending number: the list of what the steps give, one after another
abbrev pub in_order : Parts → List ℕ
in_order s = parts_below s how_many
