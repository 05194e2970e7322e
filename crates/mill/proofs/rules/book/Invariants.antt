use Rattle.std.proofs.Common.{◌≡◌, map, take}
use Rattle.checking.specs.Books.{typed}
use Rattle.mill.specs.Rules.{rules, row_of}
use Rattle.mill.proofs.rules.book.Given as goal

abbrev pub invariant-loop-kind : goal.invariant-loop-kind
invariant-loop-kind l = map row_of (typed l.book).rules ≡ take l.kind-index rules
