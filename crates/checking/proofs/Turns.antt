-- Round after round: the parts and entries of rounds up to k, and those of round k + 1. Assumes nothing.
use Rattle.std.proofs.Common.{◌≡◌, ℕ, suc, ◌+◌, ◌-◌, ◌<◌, ◌≤◌, ◌⊎◌, List, [], ◌++◌, length, get_or, Some, ◌∙◌, inl, inr, arith}
use Rattle.std.specs.List.{slice_get}
use Rattle.std.proofs.lemmas.Option.{slice_get_within}
use Rattle.sets.specs.declared.parts.Parts.{Parts}
use Rattle.sets.specs.Members.{Has, Within, Empty, Holds}
use Rattle.sets.specs.Counting.{size}
use Rattle.sets.proofs.Told.{told_has}
use Rattle.sets.proofs.Counts.{size_more}
use Rattle.lists.specs.Held.{held}
use Rattle.lists.proofs.Nths.{nth_front, nth_back, nth_either}
use Rattle.checking.specs.declared.justification.Derivation.{Derivation}
use Rattle.checking.specs.declared.justification.Entry.{Entry}
use Rattle.checking.specs.declared.rule.Rule.{Rule}
use Rattle.checking.specs.Rounds.{By, Round}
use Rattle.checking.specs.Justification.{Right, Before, Lists}
use Rattle.checking.specs.Derivations.{Next, Rows, Extended, Derived}
use Rattle.checking.proofs.Reduct.{brings_more, follows_more, by_suc, by_le, by_stable, in_outfit}
use Rattle.checking.proofs.Layers.{first_round, by_lower, lower_by}

module _ (rules : List Rule) (c : Parts) where
  -- the parts of rounds up to k are reached, at least k of them, and have their entries
  pub record Turned (k : ℕ) (d : Derivation) : Type 0 where
    pub reached : Holds d.reached (By rules c k)
    pub many : k ≤ size d.reached
    pub lists : Lists rules c (By rules c k) (held d.entries)

  pub turned_none : (d : Derivation) → Empty d.reached → held d.entries ≡ [] → Turned 0 d
  unfolding By
  turned_none d none empty = grind arith

  -- one round more
  module _ {k : ℕ} {d : Derivation} {new : Parts} {lowest : List ℕ} (was : Turned k d) (next : Next rules c d.reached new lowest) where
    -- a part is new when its round is k + 1
    new_by : (p : ℕ) → Has new p → By rules c (suc k) p
    unfolding By
    new_by p h = follows_more rules c (λ q. (was.reached q).0) p ((next.parts p).0 h).0

    by_either : (p : ℕ) → By rules c (suc k) p → Has d.reached p ⊎ Has new p
    unfolding By
    by_either p b = elim (told_has d.reached p) [
      | inl h ↦ inl h
      | inr n ↦ inr ((next.parts p).1 (follows_more rules c (λ q. (was.reached q).1) p b, n))
    ]

    new_right : (e : Entry) → Has new e.part → e.round ≡ suc k → e.rule ≡ get_or lowest e.part 0 → Right rules c e
    new_right e h in-round by_rule =
        let low = next.rule e.part h in
        record {
          by_round = rw in-round (new_by e.part h, λ j l b. grind (arith, next.parts e.part, was.reached e.part, by_le rules c j k e.part));
          by_rule = rw (in-round, by_rule) (
            brings_more rules c (λ q i. by_lower rules c k q ((was.reached q).0 i)) e.part (get_or lowest e.part 0) low.0,
            λ j l b. low.1 j l (brings_more rules c (λ q i. (was.reached q).1 (lower_by rules c k q i)) e.part j b),
          );
        }

    -- an entry of a round up to k
    old_round : (e : Entry) → By rules c k e.part → Right rules c e → e.round ≤ k
    old_round e b r = grind (arith, r.by_round.1 k)

    lists_more : (es fs : List Entry) → Lists rules c (By rules c k) es → Rows (Has new) (suc k) lowest fs → Lists rules c (By rules c (suc k)) (es ++ fs)
    lists_more es fs old rows = record {
      right = λ i e h. elim (nth_either es fs i e h) [
        | inl x ↦ (let t = old.right i e x in (by_suc rules c k e.part t.0, t.1))
        | inr x ↦ (let t = rows.each (i - length es) e x.1 in (new_by e.part t.0, new_right e t.0 t.1 t.2))
      ];
      whole = λ p b. elim (by_either p b) [
        | inl h ↦ (let t = old.whole p ((was.reached p).0 h) in (t.0, t.1, nth_front es fs t.0 t.1 t.2, t.3))
        | inr h ↦ (let t = rows.whole p h in (length es + t.0, t.1, nth_back es fs t.0 ∙ t.2, t.3))
      ];
      sorted = λ i j a b l x y. sorted i j a b l (nth_either es fs i a x) (nth_either es fs j b y);
    }
      where
        sorted : (i j : ℕ) (a b : Entry) → i < j → (slice_get es i ≡ Some a) ⊎ ((length es ≤ i) × (slice_get fs (i - length es) ≡ Some a))
            → (slice_get es j ≡ Some b) ⊎ ((length es ≤ j) × (slice_get fs (j - length es) ≡ Some b)) → Before a b
        sorted i j a b l (inl x) (inl y) = old.sorted i j a b l x y
        sorted i j a b l (inl x) (inr y) = let t = old.right i a x in inl (omega (arith, old_round a t.0 t.1, rows.each (j - length es) b y.1))
        sorted i j a b l (inr x) (inl y) = absurd (omega (arith, slice_get_within es j b))
        sorted i j a b l (inr x) (inr y) = grind (arith, rows.each (i - length es) a, rows.each (j - length es) b, rows.sorted (i - length es) (j - length es) a b)

    pub turned_more : (is : Derivation) → (p : ℕ) × Has new p → Extended new (suc k) lowest d is → Turned (suc k) is
    turned_more is some more = record {
      reached = λ p. grind (arith, more.reached p, was.reached p, by_suc rules c k p, new_by p, by_either p);
      many = omega (arith, size_more some.0 d.reached is.reached (λ p h. (more.reached p).1 (inl h)) ((more.reached some.0).1 (inr some.1)) ((next.parts some.0).0 some.1).1, was.many);
      lists = rw more.entries (lists_more (held d.entries) more.more was.lists more.rows);
    }

  -- the parts reached are all that have a round
  derived : {k : ℕ} {d : Derivation} → Turned k d → ((j p : ℕ) → By rules c j p → By rules c k p) → Derived rules c d
  derived {k} {d} t all = record {
    reached = λ p. (λ h. to p ((t.reached p).0 h), λ r. (t.reached p).1 (from p r));
    lists = record {
      right = λ i e h. let r = t.lists.right i e h in (to e.part r.0, r.1);
      whole = λ p r. t.lists.whole p (from p r);
      sorted = t.lists.sorted;
    };
  }
    where
      to : (p : ℕ) → By rules c k p → (j : ℕ) × Round rules c j p
      to p b = let f = first_round rules c k p b in (f.0, f.2)

      from : (p : ℕ) → (j : ℕ) × Round rules c j p → By rules c k p
      from p r = all r.0 p r.1.0

  -- a round brought nothing: there is no higher one
  pub derived_last : {k : ℕ} {d : Derivation} {new : Parts} {lowest : List ℕ} → Turned k d → Next rules c d.reached new lowest → Empty new → Derived rules c d
  derived_last {k} t next none = derived t (by_stable rules c k (λ p b. grind (arith, by_either t next p b, t.reached p)))

  -- the whole outfit is reached
  pub derived_all : {k : ℕ} {d : Derivation} → Turned k d → Within c d.reached → Derived rules c d
  derived_all t all = derived t (λ j p b. (t.reached p).0 (all p (in_outfit rules c j p b)))
