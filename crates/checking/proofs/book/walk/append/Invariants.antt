use Rattle.std.proofs.Common.{◌≡◌, ◌≤◌, ◌++◌, length, take}
use Rattle.lists.specs.Held.{held}
use Rattle.checking.proofs.book.walk.append.Given as goal

abbrev pub invariant-loop-place : goal.invariant-loop-place
invariant-loop-place g l =
    let all = (g.B.Book.meaning l.book).rules in
    (held l.rules ≡ held l.initial.rules ++ take l.place all) × (l.place ≤ length all)
