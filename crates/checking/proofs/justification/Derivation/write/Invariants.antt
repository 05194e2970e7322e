use Rattle.std.proofs.Common.{◌≡◌, take}
use Rattle.checking.specs.Justification.{bytes, fronted}
use Rattle.checking.proofs.justification.Derivation.write.Given as goal

abbrev pub invariant-loop-i : goal.invariant-loop-i
invariant-loop-i l = l.buffer ≡ fronted (bytes (take l.i l.entries)) l.initial.buffer
