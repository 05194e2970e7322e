-- The reasons of a refusal exclude one another, and an outfit has one justification, so there is one answer. Assumes nothing.
use Rattle.std.proofs.Common.{◌≡◌, ℕ, ◌<◌, List, length, is_ok, Some, Decides, Result, MatchResult, sym, ap, ◌∙◌, arith}
use Rattle.std.specs.List.{slice_get}
use Rattle.std.proofs.lemmas.Bool.Decides.{Decides-like}
use Rattle.std.proofs.lemmas.Option.{slice_get_cases}
use Rattle.sets.specs.declared.parts.Parts.{Parts}
use Rattle.sets.specs.Members.{Lowest}
use Rattle.lists.proofs.Sorting.{one_list}
use Rattle.refusals.specs.declared.Refusal.{Refusal}
use Rattle.refusals.specs.Refusals.{Code, numbered}
use Rattle.refusals.proofs.Telling.{told_apart}
use Rattle.checking.specs.Validity.{Kept}
use Rattle.checking.specs.declared.justification.Entry.{Entry}
use Rattle.checking.specs.declared.rule.Rule.{Rule}
use Rattle.checking.specs.Rounds.{Brings, By, Lower}
use Rattle.checking.specs.Justification.{Right, Before, Justification, Written}
use Rattle.checking.specs.Verdicts.{Blame, Roundless, Fault, short, broken, roundless, Verdict, Passing, PassingByRounds}
use Rattle.checking.specs.Laws.{Laws}
use Rattle.checking.proofs.Layers.{first_round_law, round_law, valid_by_rounds}
use Rattle.checking.proofs.Faults.{fault_invalid}

before_asym : (a b : Entry) → Before a b → Before b a → ⊥
before_asym a b x y = grind arith

pub one_lowest : (P : ℕ → Type 0) (p q : ℕ) → Lowest P p → Lowest P q → p ≡ q
one_lowest P p q a b = grind arith

one_blame : (r : Rule) (c : Parts) (i : ℕ) (x y : Code) → Blame r c i x → Blame r c i y → x ≡ y
one_blame r c i x y a b = grind arith

-- the first rule of which K does not hold
one_first : (K : Rule → Type 0) (rules : List Rule) (i j : ℕ) (r s : Rule)
    → (slice_get rules i ≡ Some r) × (K r → ⊥) × ((k : ℕ) (t : Rule) → k < i → slice_get rules k ≡ Some t → K t)
    → (slice_get rules j ≡ Some s) × (K s → ⊥) × ((k : ℕ) (t : Rule) → k < j → slice_get rules k ≡ Some t → K t) → (i ≡ j) × (r ≡ s)
one_first K rules i j r s a b = grind arith

-- An answer passes or refuses: P is what passing takes, W what is then written, R what the refusals stand for.
module _ (P : Type 0) (W : ℕ → List ℕ → Type 0) (R : Code → Type 0) (fails : (x : Code) → R x → P → ⊥) (old : List ℕ) where
  abbrev Answered : List ℕ → Result ℕ Refusal → Type 0
  Answered new r = MatchResult r (λ n. P × W n new) (λ e. R (numbered e) × (new ≡ old))

  pub decided : (new : List ℕ) (r : Result ℕ Refusal) → Answered new r → Decides (is_ok r) P
  decided new r a = grind arith

  pub one_answer : ((m n : ℕ) (new other : List ℕ) → W m new → W n other → (m ≡ n) × (new ≡ other)) → ((x y : Code) → R x → R y → x ≡ y)
      → (new other : List ℕ) (r s : Result ℕ Refusal) → Answered new r → Answered other s → (r ≡ s) × (new ≡ other)
  one_answer one_writing one_reason new other r s a b = grind (arith, told_apart)

module _ (rules : List Rule) (c : Parts) where
  -- a part has one right entry
  same_entry : (a b : Entry) → Right rules c a → Right rules c b → a.part ≡ b.part → a ≡ b
  same_entry a b x y same =
      let round = one_lowest (λ k. By rules c k b.part) a.round b.round (rw (← same) x.by_round) y.by_round in
      let rule = one_lowest (Brings rules c (Lower rules c b.round) b.part) a.rule b.rule (rw (← round, ← same) x.by_rule) y.by_rule in
      grind arith

  pub one_justification : (es fs : List Entry) → Justification rules c es → Justification rules c fs → es ≡ fs
  one_justification es fs x y = one_list Before before_asym es fs x.sorted y.sorted (sub es fs x y) (sub fs es y x)
    where
      sub : (es fs : List Entry) → Justification rules c es → Justification rules c fs → (e : Entry) → (i : ℕ) × (slice_get es i ≡ Some e) → (i : ℕ) × (slice_get fs i ≡ Some e)
      sub es fs x y e m =
          let r = x.right m.0 e m.1 in
          let f = y.whole e.part r.0 in
          (f.0, f.2 ∙ ap Some (same_entry f.1 e (y.right f.0 f.1 f.2).1 r.1 f.3))

  pub one_fault : (room : ℕ) (x y : Code) → Fault rules c room x → Fault rules c room y → x ≡ y
  one_fault room x y (short l e) (short m f) = e ∙ sym f
  one_fault room x y (short l e) (broken m j s b u) = absurd (omega arith)
  one_fault room x y (short l e) (roundless m k q h f) = absurd (omega arith)
  one_fault room x y (broken l i r a t) (short m f) = absurd (omega arith)
  one_fault room x y (broken l i r a t) (broken m j s b u) = let w = one_first (λ z. Kept z c) rules i j r s a b in one_blame s c j x y (rw (← w.0, ← w.1) t) u
  one_fault room x y (broken l i r a t) (roundless m k q h f) = absurd (a.1 (k i r a.0))
  one_fault room x y (roundless l k p h e) (short m f) = absurd (omega arith)
  one_fault room x y (roundless l k p h e) (broken m j s b u) = absurd (b.1 (k j s b.0))
  one_fault room x y (roundless l k p h e) (roundless m n q g f) = let same = one_lowest (Roundless rules c) p q h g in grind arith

  pub one_written : (old : List ℕ) (m n : ℕ) (new other : List ℕ) → Written rules c m old new → Written rules c n old other → (m ≡ n) × (new ≡ other)
  one_written old m n new other a b = let same = one_justification a.entries b.entries a.is b.is in grind arith

  pub one_verdict : (old new other : List ℕ) (r s : Result ℕ Refusal) → Verdict rules c old new r → Verdict rules c old other s → (r ≡ s) × (new ≡ other)
  one_verdict old = one_answer _ _ _ (fault_invalid rules c (length old)) old (one_written old) (one_fault (length old))

pub laws : Laws
laws = record {
  ends = λ rules place. grind (arith, slice_get_cases rules place);
  first_round = first_round_law;
  round = round_law;
  valid_by_rounds = valid_by_rounds;
  one_justification = one_justification;
  one_verdict = one_verdict;
}

-- all that a verdict promises
pub judged : (rules : List Rule) (c : Parts) (old new : List ℕ) (r : Result ℕ Refusal) → Verdict rules c old new r → record {
  verdict : Verdict rules c old new r;
  valid : Decides (is_ok r) (Passing rules c (length old));
  rounds : Decides (is_ok r) (PassingByRounds rules c (length old));
  laws : Laws;
}
judged rules c old new r v =
    let p = decided _ (λ n is. Written rules c n old is) _ (fault_invalid rules c (length old)) old new r v in
    let b = valid_by_rounds rules c in
    record {
      verdict = v;
      valid = p;
      rounds = Decides-like (is_ok r) (λ h. let k = b.0 h.1 in (h.0, k.0, k.1)) (λ h. (h.0, b.1 (h.1, h.2))) p;
      laws = laws;
    }
