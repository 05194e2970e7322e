-- The entries of one round, part by part. Assumes nothing.
use Rattle.std.proofs.Common.{◌≡◌, ℕ, ◌+◌, ◌<◌, ◌≤◌, ◌⊎◌, List, [], ◌∷◌, ◌++◌, length, get_or, Some, sym, ap, ◌∙◌, inl, inr, append_assoc, arith}
use Rattle.std.specs.List.{slice_get}
use Rattle.std.proofs.lemmas.Option.{slice_get_within}
use Rattle.std.proofs.lemmas.List.{append-nil}
use Rattle.sets.specs.declared.parts.Parts.{Parts}
use Rattle.sets.specs.Width.{how_many}
use Rattle.sets.specs.Members.{Has, Empty, Holds, Lowest}
use Rattle.sets.specs.Counting.{size}
use Rattle.sets.proofs.Counts.{counting}
use Rattle.lists.specs.Held.{held}
use Rattle.lists.proofs.Nths.{nth_front, nth_push, nth_last}
use Rattle.checking.specs.declared.justification.Derivation.{Derivation}
use Rattle.checking.specs.declared.justification.Entry.{Entry}
use Rattle.checking.specs.Derivations.{Rows, Added, Extended}

-- the size of the set with one part more
pub counted_more : (d : Derivation) (part : ℕ) (with : Parts) → part < how_many → (Has d.reached part → ⊥)
    → Holds with (λ p. Has d.reached p ⊎ ((p ≡ part) × (p < how_many))) → size with ≡ length (held d.entries) + 1
counted_more d part with known new w = omega (arith, counting.more d.reached with part new (λ p. grind (arith, w p)), d.counted)

-- one entry more, of a part above all others
rows_push : {P Q : ℕ → Type 0} {round : ℕ} {lowest : List ℕ} (es : List Entry) (e : Entry) → e.round ≡ round → e.rule ≡ get_or lowest e.part 0
    → ((p : ℕ) → P p → (Q p) × (p < e.part)) → Q e.part → ((p : ℕ) → Q p → (P p) ⊎ (p ≡ e.part)) → Rows P round lowest es → Rows Q round lowest (es ++ e ∷ [])
rows_push {Q = Q} {round = round} {lowest = lowest} es e in-round by_rule low here all r = record {
  each = λ i x h. each i x (nth_push es e x i h);
  whole = λ p h. elim (all p h) [
    | inl o ↦ (let t = r.whole p o in (t.0, t.1, nth_front es (e ∷ []) t.0 t.1 t.2, t.3))
    | inr s ↦ (length es, e, nth_last es e, sym s)
  ];
  sorted = λ i j a b l x y. sorted i j a b l (nth_push es e a i x) (nth_push es e b j y);
}
  where
    each : (i : ℕ) (x : Entry) → (slice_get es i ≡ Some x) ⊎ ((i ≡ length es) × (e ≡ x)) → Q x.part × (x.round ≡ round) × (x.rule ≡ get_or lowest x.part 0)
    each i x h = grind (arith, r.each i x, low x.part)

    sorted : (i j : ℕ) (a b : Entry) → i < j → (slice_get es i ≡ Some a) ⊎ ((i ≡ length es) × (e ≡ a)) → (slice_get es j ≡ Some b) ⊎ ((j ≡ length es) × (e ≡ b)) → a.part < b.part
    sorted i j a b l x y = grind (arith, r.each i a, low a.part, r.sorted i j a b, slice_get_within es j b)

-- the entries of the new parts below `upto` are put, those of rest are left
pub record Extending (round : ℕ) (lowest : List ℕ) (new rest : Parts) (was is : Derivation) : Type 0 where
  pub upto : ℕ
  pub left : Holds rest (λ p. Has new p × (upto ≤ p))
  pub reached : Holds is.reached (λ p. Has was.reached p ⊎ (Has new p × (p < upto)))
  pub more : List Entry
  pub rows : Rows (λ p. Has new p × (p < upto)) round lowest more
  pub entries : held is.entries ≡ held was.entries ++ more

pub extending_none : (round : ℕ) (lowest : List ℕ) (new : Parts) (was : Derivation) → Extending round lowest new new was was
extending_none round lowest new was = record {
  upto = 0;
  left = λ p. grind arith;
  reached = λ p. grind arith;
  more = [];
  rows = grind arith;
  entries = sym (append-nil _);
}

module _ {round : ℕ} {lowest : List ℕ} {new rest : Parts} {was is : Derivation} (x : Extending round lowest new rest was is) where
  pub extending_more : {next : Derivation} (less : Parts) (e : Entry) → e.round ≡ round → e.rule ≡ get_or lowest e.part 0 → Lowest (Has rest) e.part
      → Holds less (λ p. Has rest p × (p ≡ e.part → ⊥)) → Added e is next → Extending round lowest new less was next
  extending_more less e in-round by_rule low without add = record {
    upto = e.part + 1;
    left = λ p. grind (arith, x.left p, x.left e.part, low.1 p, without p);
    reached = λ p. grind (arith, x.left p, x.left e.part, x.reached p, low.1 p, add.reached p);
    more = x.more ++ e ∷ [];
    rows = rows_push x.more e in-round by_rule (λ p h. grind (arith, x.left e.part)) (grind (arith, x.left e.part)) (λ p h. grind (arith, x.left p, low.1 p)) x.rows;
    entries = add.entries ∙ ap (λ t. t ++ e ∷ []) x.entries ∙ append_assoc (held was.entries) x.more (e ∷ []);
  }

  pub extending_all : Empty rest → Extended new round lowest was is
  extending_all none = record {
    reached = λ p. grind (arith, x.left p, x.reached p);
    more = x.more;
    rows = record { each = λ i e h. grind (arith, x.rows.each i e h); whole = λ p h. x.rows.whole p (grind (arith, x.left p)); sorted = x.rows.sorted };
    entries = x.entries;
  }
