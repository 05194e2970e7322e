-- Rounds and the least model of the reduct. Assumes nothing.
use Rattle.std.proofs.Common.{◌≡◌, ℕ, zero, suc, ◌<◌, ◌≤◌, max, List, refl, inl, inr, arith}
use native.Mathlib.Decide.{le_ind}
use Rattle.std.proofs.lemmas.Bool.{cases_order}
use Rattle.sets.specs.declared.parts.Parts.{Parts}
use Rattle.sets.specs.Width.{how_many}
use Rattle.sets.specs.Members.{Has, Holds}
use Rattle.sets.proofs.Told.{Told, told_has, known}
use Rattle.checking.specs.declared.rule.Rule.{Rule}
use Rattle.checking.specs.Validity.{Reduct, Closed, LeastModel}
use Rattle.checking.specs.Rounds.{Brings, Follows, By, Round, Justified}

module _ (rules : List Rule) (c : Parts) where
  pub brings_more : {S S' : ℕ → Type 0} → ((q : ℕ) → S q → S' q) → (p i : ℕ) → Brings rules c S p i → Brings rules c S' p i
  brings_more f p i b = (b.0, b.1, b.2, λ q n. f q (b.3 q n))

  pub follows_more : {S S' : ℕ → Type 0} → ((q : ℕ) → S q → S' q) → (p : ℕ) → Follows rules c S p → Follows rules c S' p
  follows_more f p h = (h.0, brings_more f p h.0 h.1)

  -- a set is closed under the clauses of the reduct when it has what follows from it
  pub closed_follows : (m : Parts) → Closed (Reduct rules c) m → (p : ℕ) → Follows rules c (Has m) p → Has m p
  closed_follows m h p f = h (record { needs = f.1.0.needs; head = p }) (f.0, f.1.0, f.1.1, f.1.2, refl) f.1.3

  pub follows_closed : (m : Parts) → ((p : ℕ) → Follows rules c (Has m) p → Has m p) → Closed (Reduct rules c) m
  follows_closed m h k t needs = h k.head (t.0, (t.1, t.2, t.3, λ q i. needs q (rw t.4 i)))

  -- a round of at most k is one of at most k + 1
  pub by_suc : (k p : ℕ) → By rules c k p → By rules c (suc k) p
  unfolding By
  by_suc zero p h = absurd h
  by_suc (suc k) p h = follows_more (by_suc k) p h

  pub by_le : (k j p : ℕ) → k ≤ j → By rules c k p → By rules c j p
  by_le k j p l h = le_ind (λ (m : ℕ). By rules c m p) h (λ m _ b. by_suc m p b) j l

  -- whatever has all that follows from it has every part that has a round
  by_closed : (M : ℕ → Type 0) → ((p : ℕ) → Follows rules c M p → M p) → (k p : ℕ) → By rules c k p → M p
  unfolding By
  by_closed M h zero p b = absurd b
  by_closed M h (suc k) p b = h p (follows_more (by_closed M h k) p b)

  -- once a round brings nothing new, no later one does
  pub by_stable : (k : ℕ) → ((p : ℕ) → By rules c (suc k) p → By rules c k p) → (j p : ℕ) → By rules c j p → By rules c k p
  unfolding By
  by_stable k h = by_closed (By rules c k) h

  -- a part that has a round is in the outfit
  pub in_outfit : (k p : ℕ) → By rules c k p → Has c p
  in_outfit = by_closed (Has c) (λ p f. f.1.2.1.1)

  -- no part has two rounds
  pub one_round : (j k p : ℕ) → Round rules c j p → Round rules c k p → j ≡ k
  one_round j k p a b = grind (arith, cases_order j k, a, b)

  -- if each part of a set has a round, one number bounds them all
  below : (s : Parts) → ((q : ℕ) → Has s q → (k : ℕ) × By rules c k q) → (w : ℕ) → (k : ℕ) × ((q : ℕ) → q < w → Has s q → By rules c k q)
  below s h zero = (0, λ q l. absurd (omega arith))
  below s h (suc w) = go (below s h w) (told_has s w)
    where
      go : (k : ℕ) × ((q : ℕ) → q < w → Has s q → By rules c k q) → Told (Has s w) → (k : ℕ) × ((q : ℕ) → q < suc w → Has s q → By rules c k q)
      go b (inl y) = let t = h w y in (max b.0 t.0, λ q l n. grind (arith, by_le))
      go b (inr m) = (b.0, λ q l n. grind arith)

  -- so what follows from parts that have a round has a round
  rounds_closed : (p : ℕ) → Follows rules c (λ q. (k : ℕ) × By rules c k q) p → (k : ℕ) × By rules c k p
  unfolding By
  rounds_closed p h =
      let n = h.1.0.needs in
      let b = below n h.1.3 how_many in
      (suc b.0, (h.0, (h.1.0, h.1.1, h.1.2, λ q i. b.1 q (known n q i) i)))

  -- a set of just the parts that have a round is the least model
  pub least_holds : (m : Parts) → Holds m (λ p. (k : ℕ) × By rules c k p) → LeastModel (Reduct rules c) m
  least_holds m h = (
    follows_closed m (λ p f. (h p).1 (rounds_closed p (follows_more (λ q. (h q).0) p f))),
    λ n cl p i. let b = (h p).0 i in by_closed (Has n) (closed_follows n cl) b.0 p b.1,
  )

  -- an outfit all of whose parts have a round is the least model of its own reduct
  pub justified_least : Justified rules c → LeastModel (Reduct rules c) c
  justified_least h = least_holds c (λ p. grind (arith, in_outfit))
