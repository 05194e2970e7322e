use Rattle.std.proofs.Common.{ap, length, arith}
use Rattle.lists.specs.Held.{held_few}
use Rattle.checking.proofs.Bytes.{put_entry}
use Rattle.checking.proofs.justification.Derivation.write.Goals as goal

pub loop-i-preserved : goal.loop-i-preserved
loop-i-preserved c = put_entry _ _ _ _ _ c.loop-i-test.true (omega (arith, c.requires, ap length c.items-entries.ensures, held_few c.args.self.now.entries)) c.loop-i.invariant
