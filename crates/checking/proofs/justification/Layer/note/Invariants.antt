use Rattle.std.proofs.Common.{◌≡◌, length}
use Rattle.sets.specs.Width.{how_many}
use Rattle.checking.proofs.Noting.{Noting}
use Rattle.checking.proofs.justification.Layer.note.Given as goal

abbrev pub invariant-loop-part : goal.invariant-loop-part
invariant-loop-part l = Noting l.fn.parts l.part-iterator.rest l.rule l.initial.self.lowest l.self.lowest × (length l.self.lowest ≡ how_many) × (l.self.parts ≡ l.initial.self.parts)
