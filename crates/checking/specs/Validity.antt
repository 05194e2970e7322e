-- Which outfits are valid. An outfit is a set of parts. Assumes nothing.
use Rattle.std.specs.Prelude.{◌≡◌, ℕ, List, Some}
use Rattle.std.specs.List.{slice_get}
use Rattle.sets.specs.declared.parts.Parts.{Parts}
use Rattle.sets.specs.Members.{Has, Within, Apart}
use Rattle.checking.specs.declared.rule.Kind.TheVariants.{Exclusive}
use Rattle.checking.specs.declared.rule.Rule.{Rule}

-- a rule applies to an outfit that has all its needs and none of its absences
abbrev pub Applies : Rule → Parts → Type 0
Applies r outfit = Within r.needs outfit × Apart r.absences outfit

-- p is a head of the rule, and in the outfit
abbrev pub Chosen : Rule → Parts → ℕ → Type 0
Chosen r outfit p = Has r.heads p × Has outfit p

-- no two heads are chosen
abbrev pub AtMostOne : Rule → Parts → Type 0
AtMostOne r outfit = (p q : ℕ) → Chosen r outfit p → Chosen r outfit q → p ≡ q

-- a rule is kept when it does not apply, or a head is chosen, and only one if it is an exclusive choice
abbrev pub Kept : Rule → Parts → Type 0
Kept r outfit = Applies r outfit → ((p : ℕ) × Chosen r outfit p) × (r.kind ≡ Exclusive → AtMostOne r outfit)

-- every rule is kept
abbrev pub Keeps : List Rule → Parts → Type 0
Keeps rules outfit = (i : ℕ) (r : Rule) → slice_get rules i ≡ Some r → Kept r outfit

-- A rule none of whose absences is in the outfit has a clause for each chosen head, from its needs to that head. The absences are read
-- against the outfit, whatever is derived.
abbrev pub ClauseFor : Rule → Parts → ℕ → Type 0
ClauseFor r outfit p = Apart r.absences outfit × Chosen r outfit p

-- a clause: where all its needs are, its head is
pub record Clause : Type 0 where
  pub needs : Parts
  pub head : ℕ

-- the reduct for an outfit is the set of the clauses of all rules
abbrev pub Reduct : List Rule → Parts → Clause → Type 0
Reduct rules outfit k = (i : ℕ) × (r : Rule) × (slice_get rules i ≡ Some r) × ClauseFor r outfit k.head × (k.needs ≡ r.needs)

-- a set of parts is closed under a set of clauses when it has the head of each clause whose needs it has
abbrev pub Closed : (Clause → Type 0) → Parts → Type 0
Closed clauses m = (k : Clause) → clauses k → Within k.needs m → Has m k.head

-- the least model is the least set that is closed
abbrev pub LeastModel : (Clause → Type 0) → Parts → Type 0
LeastModel clauses m = Closed clauses m × ((n : Parts) → Closed clauses n → Within m n)

-- an outfit is valid when it keeps every rule and is the least model of the reduct for itself
abbrev pub Valid : List Rule → Parts → Type 0
Valid rules outfit = Keeps rules outfit × LeastModel (Reduct rules outfit) outfit
