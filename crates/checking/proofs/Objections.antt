-- From what was found to the answer of a check, and that there is one answer. Assumes nothing.
use Rattle.std.proofs.Common.{◌≡◌, ℕ, List, length, is_ok, Result, arith}
use Rattle.std.proofs.lemmas.Bool.Decides.{Decides-like}
use Rattle.sets.specs.declared.parts.Parts.{Parts}
use Rattle.refusals.specs.declared.Refusal.{Refusal}
use Rattle.refusals.specs.Refusals.{Code}
use Rattle.checking.specs.Justification.{Written}
use Rattle.checking.specs.Laws.{Laws}
use Rattle.checking.specs.declared.rule.Rule.{Rule}
use Rattle.checking.specs.Calls.{Wish, State}
use Rattle.checking.specs.Checks.{MeetsWishes, Unmet, rules_in_force, Objection, by_rules, by_wishes, Checked, Passes, Check, OneCheck}
use Rattle.checking.proofs.Layers.{valid_by_rounds}
use Rattle.checking.proofs.Faults.{fault_invalid}
use Rattle.checking.proofs.Single.{one_fault, one_written, one_answer, decided, laws}

unmet_not : (wish : ℕ → Wish) (c : Parts) (code : Code) → Unmet wish c code → MeetsWishes wish c → ⊥
unmet_not wish c code u m = grind arith

one_unmet : (wish : ℕ → Wish) (c : Parts) (x y : Code) → Unmet wish c x → Unmet wish c y → x ≡ y
one_unmet wish c x y u v = grind arith

module _ (book : List Rule) (s : State) (c : Parts) (room : ℕ) where
  abbrev Objected : Code → Type 0
  Objected x = Objection (rules_in_force book s) s.wish c room x

  -- what is refused does not pass
  objection_fails : (x : Code) → Objected x → Passes book s c room → ⊥
  objection_fails x (by_rules f) v = fault_invalid (rules_in_force book s) c room x f (v.0, v.1.0)
  objection_fails x (by_wishes p u) v = unmet_not s.wish c x u v.1.1

  one_objection : (x y : Code) → Objected x → Objected y → x ≡ y
  one_objection x y (by_rules f) (by_rules g) = one_fault (rules_in_force book s) c room x y f g
  one_objection x y (by_rules f) (by_wishes p u) = absurd (fault_invalid (rules_in_force book s) c room x f p)
  one_objection x y (by_wishes p u) (by_rules g) = absurd (fault_invalid (rules_in_force book s) c room y g p)
  one_objection x y (by_wishes p u) (by_wishes q v) = one_unmet s.wish c x y u v

pub one_check : OneCheck
one_check book s c old = one_answer _ _ _ (objection_fails book s c (length old)) old (one_written (rules_in_force book s) c old) (one_objection book s c (length old))

-- all that a check promises
pub checked : (book : List Rule) (s : State) (c : Parts) (old new : List ℕ) (r : Result ℕ Refusal) → Checked book s c old new r
    → record { answer : Check book s c old new r; laws : Laws; one_check : OneCheck }
checked book s c old new r v =
    let p = decided _ (λ n is. Written (rules_in_force book s) c n old is) _ (objection_fails book s c (length old)) old new r v in
    let b = valid_by_rounds (rules_in_force book s) c in
    record {
      answer = record {
        verdict = v;
        passes = p;
        rounds = Decides-like (is_ok r) (λ h. let k = b.0 h.1.0 in ((h.0, k.0, k.1), h.1.1)) (λ h. (h.0.0, (b.1 (h.0.1, h.0.2), h.1))) p;
      };
      laws = laws;
      one_check = one_check;
    }
