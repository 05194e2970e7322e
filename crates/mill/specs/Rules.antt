-- The rules of the mill. Assumes nothing.
use Rattle.std.specs.Prelude.{◌≡◌, ℕ, List, [], ◌∷◌, map}
use Rattle.sets.specs.declared.parts.Parts.{Parts}
use Rattle.checking.specs.declared.rule.Rule.{Rule}
use Rattle.checking.specs.declared.book.typed.TypedBook.{TypedBook}
use Rattle.checking.specs.Kinds.{number_of}
use Rattle.checking.specs.Books.{typed}
use Rattle.mill.specs.Parts.{these, mill, axial, cross, gearbox, brake, floatgate, liftgate}

-- a rule by its kind, heads, needs and absences
abbrev pub Row : Type 0
Row = ℕ × Parts × Parts × Parts

abbrev pub row : ℕ → List ℕ → List ℕ → List ℕ → Row
row kind heads needs absences = (kind, these heads, these needs, these absences)

abbrev pub row_of : Rule → Row
row_of rule = (number_of rule.kind, rule.heads, rule.needs, rule.absences)

-- mill, always; one of axial and cross, or both; just one of floatgate and liftgate; for cross a gearbox; for axial without a gearbox a
-- brake; never cross with floatgate
abbrev pub rules : List Row
rules =
    row 0 (mill ∷ []) [] [] ∷
    row 1 (axial ∷ cross ∷ []) (mill ∷ []) [] ∷
    row 2 (floatgate ∷ liftgate ∷ []) (mill ∷ []) [] ∷
    row 0 (gearbox ∷ []) (cross ∷ []) [] ∷
    row 0 (brake ∷ []) (axial ∷ []) (gearbox ∷ []) ∷
    row 0 [] (cross ∷ floatgate ∷ []) [] ∷
    []

-- the book has these rules and no others, in this order
abbrev pub HasRules : TypedBook → Type 0
HasRules book = map row_of (typed book).rules ≡ rules
