-- From what was found to the reasons of a refusal. Assumes nothing.
use Rattle.std.proofs.Common.{◌≡◌, ℕ, ◌<◌, ◌≤◌, List, length, sym, ap, ◌∙◌, inl, inr, arith}
use Rattle.std.proofs.lemmas.Bool.{cases_eq}
use Rattle.sets.specs.Width.{how_many}
use Rattle.sets.specs.declared.parts.Parts.{Parts}
use Rattle.sets.specs.Members.{Has, Within, Apart, Empty, Holds, Lowest}
use Rattle.sets.specs.Counting.{size}
use Rattle.sets.proofs.Sets.{same_parts}
use Rattle.sets.proofs.Told.{told_has, told_both, told_not, known, collect, some_or_none, Told}
use Rattle.lists.specs.Held.{held}
use Rattle.refusals.specs.Refusals.{Code}
use Rattle.checking.specs.declared.justification.Derivation.{Derivation}
use Rattle.checking.specs.declared.rule.Kind.TheVariants.{Exclusive}
use Rattle.checking.specs.declared.rule.Rule.{Rule}
use Rattle.checking.specs.Sizes.{least_room}
use Rattle.checking.specs.Validity.{Chosen, Kept, Keeps}
use Rattle.checking.specs.Justification.{Written, bytes, fronted}
use Rattle.checking.specs.Derivations.{Derived, Passed}
use Rattle.checking.specs.Verdicts.{HasSeveralChosen, short, broken, roundless, Roundless, Fault, Passing}
use Rattle.checking.proofs.Reduct.{in_outfit, justified_least}
use Rattle.checking.proofs.Layers.{least_justified}

-- some number is such, or none
told_some : {P : ℕ → Type 0} → ((p : ℕ) → Told (P p)) → ((p : ℕ) → P p → p < how_many) → Told ((p : ℕ) × P p)
told_some {P} told small =
    let s = collect P told small in
    elim (some_or_none s.0) [ inl n ↦ inr (λ t. n t.0 ((s.1 t.0).1 t.1)) | inr t ↦ inl (t.0, (s.1 t.0).0 t.1) ]

-- a rule that is not kept, though a head is chosen, is an exclusive choice with several
pub several : (r : Rule) (c : Parts) → (Kept r c → ⊥) → (Apart r.heads c → ⊥) → HasSeveralChosen r c
several r c unkept some = first (told_some chosen (λ p h. known c p h.1))
  where
    chosen : (p : ℕ) → Told (Chosen r c p)
    chosen p = told_both (told_has r.heads p) (told_has c p)

    -- besides p another head is chosen, or none
    second : (p : ℕ) → Chosen r c p → Told ((q : ℕ) × (Chosen r c q × (q ≡ p → ⊥))) → HasSeveralChosen r c
    second p h (inl t) =
        let no_other_kind : (r.kind ≡ Exclusive → ⊥) → ⊥ = λ n. unkept (λ a. ((p, h), λ e. absurd (n e))) in
        (grind arith, (p, t.0, h, t.1.0, λ e. t.1.1 (sym e)))
    second p h (inr n) =
        let only : (q : ℕ) → Chosen r c q → q ≡ p = λ q i. elim (cases_eq q p) [ inl e ↦ e | inr d ↦ absurd (n (q, (i, d))) ] in
        absurd (unkept (λ a. ((p, h), λ e q s x y. only q x ∙ sym (only s y))))

    first : Told ((p : ℕ) × Chosen r c p) → HasSeveralChosen r c
    first (inl t) = second t.0 t.1 (told_some (λ q. told_both (chosen q) (told_not (cases_eq q t.0))) (λ q h. known c q h.0.1))
    first (inr n) = absurd (some (λ p h i. n (p, (h, i))))

module _ {rules : List Rule} {c : Parts} {d : Derivation} (rest : Parts) (is : Derived rules c d) (left : Holds rest (λ p. Has c p × (Has d.reached p → ⊥))) where
  pub lowest_roundless : (p : ℕ) → Lowest (Has rest) p → Lowest (Roundless rules c) p
  lowest_roundless p low = grind (arith, is.reached, left)

  -- where nothing is left, every part has a round, and the entries are those of the outfit
  pub all_derived : (room : ℕ) → least_room ≤ room → Keeps rules c → Empty rest → Passed rules c room d
  all_derived room l keeps none =
      let inside : Within d.reached c = λ p h. let t = (is.reached p).0 h in in_outfit rules c t.0 p t.1.0 in
      let all : Within c d.reached = λ p h. grind (arith, none p, left p, told_has d.reached p) in
      record {
        enough = l;
        valid = (keeps, justified_least rules c (λ p h. (is.reached p).0 (all p h)));
        entries = record {
          right = λ i e h. let t = is.lists.right i e h in (in_outfit rules c t.0.0 e.part t.0.1.0, t.1);
          whole = λ p h. is.lists.whole p ((is.reached p).0 (all p h));
          sorted = is.lists.sorted;
        };
        count = d.counted ∙ ap size (same_parts d.reached c inside all);
      }

-- what was derived is written
pub written : {rules : List Rule} {c : Parts} {room n : ℕ} {d : Derivation} {old new : List ℕ} → Passed rules c room d → n ≡ length (held d.entries)
    → new ≡ fronted (bytes (held d.entries)) old → Written rules c n old new
written {d = d} p count buffer = record { entries = held d.entries; is = p.entries; parts = count ∙ p.count; count = count; buffer = buffer }

-- what is refused is not valid
pub fault_invalid : (rules : List Rule) (c : Parts) (room : ℕ) (code : Code) → Fault rules c room code → Passing rules c room → ⊥
fault_invalid rules c room code (short l e) v = omega (arith, l, v.0)
fault_invalid rules c room code (broken l i r b t) v = b.1 (v.1.0 i r b.0)
fault_invalid rules c room code (roundless l k p low e) v = let j = least_justified rules c v.1.1 p low.0.0 in low.0.1 j.0 j.1
