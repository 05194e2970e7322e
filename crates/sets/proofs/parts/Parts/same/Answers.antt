use Rattle.std.proofs.lemmas.Bool.Decides.{Decides-at}
use Rattle.sets.proofs.Sets.{decides_same}
use Rattle.sets.proofs.parts.Parts.same.Goals as goal

pub returns-clause-members : goal.returns-clause-members
returns-clause-members c = Decides-at _ _ c.eq.ensures (decides_same c.args.self c.args.other)
