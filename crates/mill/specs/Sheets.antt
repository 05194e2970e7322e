-- What the parts of the mill cost, and their heads of water. Assumes nothing.
use Rattle.std.specs.Prelude.{◌≡◌, ℕ, ◌*◌, ◌<◌, Float, List, [], ◌∷◌, Some, from_bits, slice_index}
use Rattle.std.specs.Float.{nan, inf, fin, binary32}
use Rattle.std.specs.Float.Ieee.{up, down}
use Rattle.sets.specs.Width.{how_many}
use Rattle.heads.specs.declared.head.Head.{Head}
use Rattle.measures.specs.declared.pence.Pence.{Pence}
use Rattle.measures.specs.declared.sheet.Sheet.{Sheet}
use Rattle.measures.specs.Sheets.{price_on, head_on}
use Rattle.measures.specs.Writing.{shown_on}

-- the card of each part shows its number, from part 0; the other parts have number 0
pub record Filled {X V : Type 0} (show : X → V) (Shows : V → ℕ → Type 0) (numbers : List ℕ) (sheet : Sheet X) : Type 0 where
  pub card : (p : ℕ) → p < how_many → (x : V) × (shown_on show sheet p ≡ Some x) × Shows x (slice_index numbers p)

-- in pence, from part 0; the other parts cost nothing
abbrev pub price : ℕ → ℕ
price p = slice_index (0 ∷ 900000 ∷ 700000 ∷ 150000 ∷ 40000 ∷ 60000 ∷ 85000 ∷ []) p

-- each part has its price on its card
abbrev pub Priced : Sheet Pence → Type 0
Priced sheet = (p : ℕ) → p < how_many → price_on sheet p ≡ Some (price p)

-- the heads by their bit patterns, from part 0; the other parts have none
abbrev pub metres : ℕ → Float
metres p = from_bits binary32 (slice_index (0 ∷ 0x3FC00000 ∷ 0x3F400000 ∷ 0x3E800000 ∷ 0 ∷ 0x40000000 ∷ 0x3FA00000 ∷ []) p)

-- each part has its head on its card
abbrev pub Headed : Sheet Head → Type 0
Headed sheet = (p : ℕ) → p < how_many → (h : Head) × (head_on sheet p ≡ Some h) × (h.metres ≡ metres p)

-- the same in quarters of a metre
abbrev pub quarters : ℕ → ℕ
quarters p = slice_index (0 ∷ 6 ∷ 3 ∷ 1 ∷ 0 ∷ 8 ∷ 5 ∷ []) p

-- so many quarters of a metre
abbrev pub Quarters : ℕ → Float → Type 0
Quarters n nan = ⊥
Quarters n (inf s) = ⊥
Quarters n (fin s m e) = 4 * (m * up e) ≡ n * down e

-- the bit patterns are those of the heads
abbrev pub InQuarters : Type 0
InQuarters = (p : ℕ) → Quarters (quarters p) (metres p)
