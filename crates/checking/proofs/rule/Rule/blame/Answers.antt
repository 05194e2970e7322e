use Rattle.std.proofs.Common.{refl}
use Rattle.std.proofs.lemmas.Bool.Decides.{not_from_Decides}
use Rattle.checking.specs.Verdicts.{several_chosen}
use Rattle.checking.proofs.Faults.{several}
use Rattle.checking.proofs.rule.Rule.blame.Goals as goal

pub returns : goal.returns
returns c = several_chosen (several c.args.self.now c.args.outfit c.requires (not_from_Decides c.apart.result c.apart.ensures c.if-apart.false)) refl
