-- The lowest rule for each part of a round, noted rule by rule. Assumes nothing.
use Rattle.std.proofs.Common.{◌≡◌, ℕ, ◌+◌, ◌<◌, ◌≤◌, ◌⊎◌, List, length, get_or, set, Some, inl, inr, arith}
use Rattle.std.specs.List.{slice_get}
use Rattle.std.proofs.lemmas.Grind.{elements}
use Rattle.std.proofs.lemmas.Bool.{cases_eq}
use Rattle.std.proofs.lemmas.Option.{slice_get_within}
use Rattle.sets.specs.declared.parts.Parts.{Parts}
use Rattle.sets.specs.Width.{how_many}
use Rattle.sets.specs.Members.{Has, Within, Holds, Lowest}
use Rattle.sets.proofs.Told.{known}
use Rattle.checking.specs.declared.rule.Rule.{Rule}
use Rattle.checking.specs.Validity.{ClauseFor}
use Rattle.checking.specs.Rounds.{Brings}
use Rattle.checking.specs.Derivations.{Noted, Next}

-- noted for all parts but those of rest
pub record Noting (parts rest : Parts) (rule : ℕ) (was is : List ℕ) : Type 0 where
  pub among : Within rest parts
  pub here : (p : ℕ) → Has parts p → (Has rest p → ⊥) → get_or is p 0 ≡ rule
  pub other : (p : ℕ) → (Has parts p → ⊥) → get_or is p 0 ≡ get_or was p 0

pub noting_more : {parts rest : Parts} {rule : ℕ} {was is : List ℕ} (less : Parts) (part : ℕ) → length is ≡ how_many → Has rest part
    → Holds less (λ p. Has rest p × (p ≡ part → ⊥)) → Noting parts rest rule was is → Noting parts less rule was (set is part rule)
noting_more {rest = rest} less part long h without n = record {
  among = λ p. grind (arith, n.among p, without p);
  here = λ p i m. grind (arith, elements, n.here p, known rest part h, without p);
  other = λ p m. grind (arith, elements, n.other p, n.among part);
}

-- the parts that one of the first n rules brings, and the lowest rule for each
pub record Sofar (rules : List Rule) (c below : Parts) (n : ℕ) (new : Parts) (lowest : List ℕ) : Type 0 where
  pub parts : Holds new (λ p. ((i : ℕ) × (i < n) × Brings rules c (Has below) p i) × (Has below p → ⊥))
  pub rule : (p : ℕ) → Has new p → Lowest (Brings rules c (Has below) p) (get_or lowest p 0)

module _ {rules : List Rule} {c below : Parts} where
  module _ {n : ℕ} {new fresh : Parts} {was is : List ℕ} (r : Rule) (gives either next : Parts) (at : slice_get rules n ≡ Some r)
      (g : Holds gives (λ p. ClauseFor r c p × Within r.needs below)) (u : Holds either (λ p. Has below p ⊎ Has new p))
      (f : Holds fresh (λ p. Has gives p × (Has either p → ⊥))) (x : Holds next (λ p. Has new p ⊎ Has fresh p))
      (noted : Noted fresh n was is) (so : Sofar rules c below n new was) where
    not_new : (p : ℕ) → Has fresh p → Has new p → ⊥
    not_new p h i = grind (arith, f p, u p)

    brought : (p : ℕ) → Has fresh p → Brings rules c (Has below) p n
    brought p h = let t = (g p).0 ((f p).0 h).0 in (r, at, t.0, t.1)

    -- what the rule brings is new or was
    pub sofar_more : Sofar rules c below (n + 1) next is
    sofar_more = record { parts = λ p. (to p, λ t. from p t.0.0 t.0.1 t.0.2 t.1); rule = lowest }
      where
        to : (p : ℕ) → Has next p → ((i : ℕ) × (i < n + 1) × Brings rules c (Has below) p i) × (Has below p → ⊥)
        to p h = elim ((x p).0 h) [
          | inl i ↦ (let t = (so.parts p).0 i in ((t.0.0, omega arith, t.0.2), t.1))
          | inr i ↦ ((n, omega arith, brought p i), grind (arith, f p, u p))
        ]

        from : (p i : ℕ) → i < n + 1 → Brings rules c (Has below) p i → (Has below p → ⊥) → Has next p
        from p i l b out = elim (cases_eq i n) [
          | inl e ↦
              let same : b.0 ≡ r = cc (e, b.1, at) in
              let t : ClauseFor r c p × Within r.needs below = rw (← same) (b.2, b.3) in
              grind (arith, x p, f p, g p, u p)
          | inr d ↦ (x p).1 (inl ((so.parts p).1 ((i, omega arith, b), out)))
        ]

        lowest : (p : ℕ) → Has next p → Lowest (Brings rules c (Has below) p) (get_or is p 0)
        lowest p h = elim ((x p).0 h) [
          | inl i ↦ rw (noted.other p (λ j. not_new p j i)) (so.rule p i)
          | inr i ↦ rw (noted.here p i) (brought p i, λ j l b. not_new p i ((so.parts p).1 ((j, l, b), grind (arith, f p, u p))))
        ]

  pub sofar_all : {n : ℕ} {new : Parts} {lowest : List ℕ} → length rules ≤ n → Sofar rules c below n new lowest → Next rules c below new lowest
  sofar_all l so = record {
    parts = λ p. (
      λ h. let t = (so.parts p).0 h in ((t.0.0, t.0.2), t.1),
      λ t. (so.parts p).1 ((t.0.0, omega (arith, slice_get_within rules t.0.0 t.0.1.0 t.0.1.1), t.0.1), t.1),
    );
    rule = so.rule;
  }
