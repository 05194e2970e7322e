-- Text written piece by piece. Assumes nothing.
use Rattle.std.proofs.Common.{◌≡◌, ◌<◌, length, ℕ, zero, suc, ◌+◌, List, [], ◌∷◌, ◌++◌, flat_map, refl, sym, ap, subst, ◌∙◌, arith}
use Rattle.std.specs.Prelude.{slice_index}
use Rattle.std.specs.Fmt.{HasWritten}
use Rattle.std.specs.declared.fmt.Formatter.{Formatter}
use Rattle.std.proofs.lemmas.List.{append-nil, append_assoc}
use Rattle.std.proofs.lemmas.Grind.{put_two}
use Rattle.mill.specs.Printing.{spaced, line_text, lines_text}

-- a line as it is written, piece after piece
pub line_pieces : (margin name space round rule end : List ℕ) → margin ++ (name ++ (space ++ (round ++ (space ++ (rule ++ end))))) ≡ margin ++ name ++ space ++ round ++ space ++ rule ++ end
line_pieces margin name space round rule end =
    sym (append_assoc margin name (space ++ (round ++ (space ++ (rule ++ end))))) ∙
    sym (append_assoc (margin ++ name) space (round ++ (space ++ (rule ++ end)))) ∙
    sym (append_assoc (margin ++ name ++ space) round (space ++ (rule ++ end))) ∙
    sym (append_assoc (margin ++ name ++ space ++ round) space (rule ++ end)) ∙
    sym (append_assoc (margin ++ name ++ space ++ round ++ space) rule end)

-- a chunk of three bytes is a line
one_line : (margin x rest left : List ℕ) (parts fewer : ℕ) → rest ≡ x ++ left → length x ≡ 3 → fewer + 1 ≡ parts → lines_text margin rest parts ≡ line_text margin (slice_index x 0) (slice_index x 1) (slice_index x 2) ++ lines_text margin left fewer
unfolding lines_text
one_line margin (a ∷ b ∷ c ∷ []) rest left parts fewer r l e =
    ap (λ bytes. lines_text margin bytes parts) r ∙ ap (lines_text margin (a ∷ b ∷ c ∷ left)) (let k : parts ≡ suc fewer = omega (arith, e) in k)
one_line margin [] rest left parts fewer r l e = absurd (let z : ⊥ = omega (arith, l) in z)
one_line margin (a ∷ []) rest left parts fewer r l e = absurd (let z : ⊥ = omega (arith, l) in z)
one_line margin (a ∷ b ∷ []) rest left parts fewer r l e = absurd (let z : ⊥ = omega (arith, l) in z)
one_line margin (a ∷ b ∷ c ∷ d ∷ x) rest left parts fewer r l e = absurd (let z : ⊥ = omega (arith, l) in z)

-- no chunk, no line
pub no_line : (margin rest : List ℕ) (parts : ℕ) → (0 < parts → length rest < 3) → lines_text margin rest parts ≡ []
unfolding lines_text
no_line margin [] parts few = refl
no_line margin (a ∷ []) parts few = refl
no_line margin (a ∷ b ∷ []) parts few = refl
no_line margin (a ∷ b ∷ c ∷ rest) zero few = refl
no_line margin (a ∷ b ∷ c ∷ rest) (suc parts) few = absurd (let l = few (omega arith) in let z : ⊥ = omega (arith, l) in z)

-- what is written, and what is left to write
abbrev pub Underway : {W : Type 0} → (W → List ℕ → W → Type 0) → Formatter W → Formatter W → List ℕ → List ℕ → Type 0
Underway took f g left whole = (text : List ℕ) × HasWritten took f text g × (text ++ left ≡ whole)

module _ {W : Type 0} (took : W → List ℕ → W → Type 0) (f g : Formatter W) (left whole : List ℕ) where
  -- a piece more is written
  pub piece_in : (h : Formatter W) (piece after : List ℕ) → Underway took f g left whole → HasWritten took g piece h → left ≡ piece ++ after → Underway took f h after whole
  piece_in h piece after before gh e = (
    before.0 ++ piece,
    put_two took f g h _ _ _ before.1 gh refl,
    append_assoc before.0 piece after ∙ ap (λ y. before.0 ++ y) (sym e) ∙ before.2,
  )

  -- all is written
  pub all_in : Underway took f g left whole → left ≡ [] → HasWritten took f whole g
  all_in before none = subst (λ y. HasWritten took f y g) (sym (append-nil before.0) ∙ ap (λ y. before.0 ++ y) (sym none) ∙ before.2) before.1

-- what is left begins with a part
pub part_first : (ps qs text : List ℕ) (p : ℕ) → ps ≡ p ∷ qs → text ≡ spaced p → flat_map spaced ps ≡ text ++ flat_map spaced qs
part_first ps qs text p first is = ap (flat_map spaced) first ∙ ap (λ y. y ++ flat_map spaced qs) (sym is)

-- what is left begins with a line
pub line_first : (margin x rest left line : List ℕ) (parts fewer : ℕ) → line ≡ line_text margin (slice_index x 0) (slice_index x 1) (slice_index x 2) → rest ≡ x ++ left → length x ≡ 3
    → fewer + 1 ≡ parts → lines_text margin rest parts ≡ line ++ lines_text margin left fewer
line_first margin x rest left line parts fewer is r l e = one_line margin x rest left parts fewer r l e ∙ ap (λ y. y ++ lines_text margin left fewer) (sym is)
