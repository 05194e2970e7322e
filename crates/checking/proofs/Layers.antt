-- Which parts have a round can be told, so these parts make a set, the least model; and a part that has a round has a first one.
-- Assumes nothing.
use Rattle.std.proofs.Common.{◌≡◌, ℕ, zero, suc, ◌+◌, ◌<◌, ◌≤◌, ◌⊎◌, List, [], ◌∷◌, refl, subst, inl, inr, arith}
use Rattle.std.proofs.lemmas.Option.{none-some}
use Rattle.sets.specs.declared.parts.Parts.{Parts}
use Rattle.sets.specs.Width.{how_many}
use Rattle.sets.specs.Members.{Has, Holds, Empty}
use Rattle.sets.specs.Counting.{size}
use Rattle.sets.proofs.Told.{Told, told_both, told_not, told_has, told_within, told_apart, known, collect, some_or_none}
use Rattle.sets.proofs.Counts.{counting, size_more}
use Rattle.checking.specs.declared.rule.Rule.{Rule}
use Rattle.checking.specs.Validity.{ClauseFor, Reduct, LeastModel}
use Rattle.checking.specs.Rounds.{Follows, By, Round, Lower, Justified, FirstRoundLaw, RoundLaw, ValidByRounds}
use Rattle.checking.proofs.Reduct.{follows_more, by_suc, by_le, by_stable, least_holds, justified_least}

told_follows : (rules : List Rule) (c s : Parts) (p : ℕ) → Told (Follows rules c (Has s) p)
told_follows [] c s p = inr (λ f. none-some f.1.0 f.1.1)
told_follows (r ∷ rules) c s p =
    go (told_follows rules c s p) (told_both (told_both (told_apart r.absences c) (told_both (told_has r.heads p) (told_has c p))) (told_within r.needs s))
  where
    Here : Rule → Type 0
    Here x = ClauseFor x c p × ((q : ℕ) → Has x.needs q → Has s q)

    -- a rule that is not the first
    later : (Here r → ⊥) → Follows (r ∷ rules) c (Has s) p → Follows rules c (Has s) p
    later n (zero, (x, e, g, m)) = let is : x ≡ r = cc in absurd (n (subst Here is (g, m)))
    later n (suc i, b) = (i, b)

    go : Told (Follows rules c (Has s) p) → Told (Here r) → Told (Follows (r ∷ rules) c (Has s) p)
    go t (inl g) = inl (0, (r, refl, g.0, g.1))
    go (inl f) (inr n) = inl (suc f.0, f.1)
    go (inr m) (inr n) = inr (λ f. m (later n f))

-- of two sets, one within the other, the first has all parts of the second, or the second counts more
more : {P Q : ℕ → Type 0} (a b : Parts) → Holds a P → Holds b Q → ((p : ℕ) → P p → Q p) → ((p : ℕ) → Q p → P p) ⊎ (size a < size b)
more {P} {Q} a b is_a is_b within = go (some_or_none new.0)
  where
    new : (n : Parts) × Holds n (λ p. Has b p × (Has a p → ⊥))
    new = collect _ (λ p. told_both (told_has b p) (told_not (told_has a p))) (λ p h. known b p h.0)

    go : Empty new.0 ⊎ ((p : ℕ) × Has new.0 p) → ((p : ℕ) → Q p → P p) ⊎ (size a < size b)
    go (inl none) = inl (λ p h. grind (arith, none p, new.1 p, is_a p, is_b p, told_has a p))
    go (inr w) = let new_part = (new.1 w.0).0 w.1 in inr (size_more w.0 a b (λ p h. (is_b p).1 (within p ((is_a p).0 h))) new_part.0 new_part.1)

module _ (rules : List Rule) (c : Parts) where
  -- the parts with a round of at most k
  layer : (k : ℕ) → (s : Parts) × Holds s (By rules c k)
  unfolding By
  layer zero = collect (By rules c 0) (λ p. inr (λ b. b)) (λ p b. absurd b)
  layer (suc k) =
      let t = layer k in
      let n = collect (Follows rules c (Has t.0)) (told_follows rules c t.0) (λ p f. known c p f.1.2.1.1) in
      (n.0, λ p. (λ h. follows_more rules c (λ q. (t.1 q).0) p ((n.1 p).0 h), λ b. (n.1 p).1 (follows_more rules c (λ q. (t.1 q).1) p b)))

  told_by : (k p : ℕ) → Told (By rules c k p)
  told_by k p = let s = layer k in grind (arith, told_has s.0 p)

  -- a part that has a round has a first one
  pub first_round : (k p : ℕ) → By rules c k p → (j : ℕ) × (j ≤ k) × Round rules c j p
  unfolding By
  first_round zero p b = absurd b
  first_round (suc k) p b = elim (told_by k p) [
    | inl h ↦ (let t = first_round k p h in (t.0, omega arith, t.2))
    | inr n ↦ (suc k, omega arith, (b, λ j l h. n (by_le rules c j k p (omega arith) h)))
  ]

  -- a round of at most k is one below k + 1
  pub by_lower : (k p : ℕ) → By rules c k p → Lower rules c (suc k) p
  by_lower k p b = grind (arith, first_round k p b)

  pub lower_by : (k p : ℕ) → Lower rules c (suc k) p → By rules c k p
  lower_by k p t = grind (arith, by_le rules c)

  -- a round brings nothing new, or there are more parts than before
  grows : (k : ℕ) → ((p : ℕ) → By rules c (suc k) p → By rules c k p) ⊎ (size (layer k).0 < size (layer (suc k)).0)
  grows k = more (layer k).0 (layer (suc k)).0 (layer k).1 (layer (suc k)).1 (by_suc rules c k)

  last_from : (n k : ℕ) → how_many ≤ size (layer k).0 + n → (j : ℕ) × ((p : ℕ) → By rules c (suc j) p → By rules c j p)
  last_from zero k l = elim (grows k) [
    | inl h ↦ (k, h)
    | inr g ↦ absurd (omega (arith, counting.most (layer (suc k)).0))
  ]
  last_from (suc n) k l = elim (grows k) [ inl h ↦ (k, h) | inr g ↦ last_from n (suc k) (omega arith) ]

  -- the parts that have a round
  model : (m : Parts) × Holds m (λ p. (k : ℕ) × By rules c k p)
  model =
      let last = last_from how_many 0 (omega arith) in
      let s = layer last.0 in
      (s.0, λ p. (λ h. (last.0, (s.1 p).0 h), λ b. (s.1 p).1 (by_stable rules c last.0 last.1 b.0 p b.1)))

  pub least_justified : LeastModel (Reduct rules c) c → Justified rules c
  least_justified h p i =
      let b = (model.1 p).0 (h.1 model.0 (least_holds rules c model.0 model.1).0 p i) in
      let f = first_round b.0 p b.1 in (f.0, f.2)

pub valid_by_rounds : ValidByRounds
valid_by_rounds rules c = (λ v. (v.0, least_justified rules c v.1), λ j. (j.0, justified_least rules c j.1))

-- rounds in the words that they are meant by
pub round_law : RoundLaw
unfolding By
round_law rules c zero p = (λ h. absurd h.0, λ h. absurd (omega arith))
round_law rules c (suc k) p = (
  λ h. (omega arith, λ r. h.1 r.0 r.1 r.2.0, follows_more rules c (by_lower rules c k) p h.0),
  λ h. (
    follows_more rules c (lower_by rules c k) p h.2,
    λ j l b. let t = first_round rules c j p b in h.1 (t.0, omega arith, t.2),
  ),
)

pub first_round_law : FirstRoundLaw
unfolding By
first_round_law rules c p = (
  λ h. (h.0.0, h.0.1.0, h.0.1.1, h.0.1.2, h.0.1.3),
  λ f. ((f.0, (f.1, f.2, f.3, f.4)), λ j l b. grind arith),
)
