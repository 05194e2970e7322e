-- What a typed book means, what entering a rule does, and own rules as a book. Assumes nothing.
use Rattle.std.specs.Prelude.{◌≡◌, ◌<◌, ◌≤◌, [], ◌∷◌, ◌++◌, length, Ok, Result}
use Rattle.std.proofs.Common.{arith}
use Rattle.checking.specs.declared.book.typed.TypedBook.{TypedBook}
use Rattle.refusals.specs.declared.Refusal.{Refusal}
use Rattle.refusals.specs.Refusals.{Refused}
use Rattle.checking.specs.declared.rule.Rule.{Rule}
use Rattle.lists.specs.declared.held.Held.{Held}
use Rattle.lists.specs.Held.{held, held_few}
use Rattle.checking.specs.Meanings.{Meaning}
use Rattle.checking.specs.Sizes.{most_rules, most_own}

-- the rules that were entered
abbrev pub typed : TypedBook → Meaning
typed b = record { rules = held b.rules; few = omega (arith, held_few b.rules) }

-- own rules are few enough to be a book
abbrev pub own_book : Held Rule most_own → Meaning
own_book h = record { rules = held h; few = omega (arith, held_few h) }

-- the rule stands last; a 241st is refused with 22 at 240, and the book is as it was
pub record Entered (rule : Rule) (was is : TypedBook) (r : Result (Unit {0}) Refusal) : Type 0 where
  pub entered : length (typed was).rules < most_rules → (r ≡ Ok tt) × ((typed is).rules ≡ (typed was).rules ++ rule ∷ [])
  pub full : most_rules ≤ length (typed was).rules → Refused r (22, most_rules) × (is ≡ was)
