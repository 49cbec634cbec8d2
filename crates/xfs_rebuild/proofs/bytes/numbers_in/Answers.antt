use Rattle.std.proofs.Common.{arith}
use Rattle.std.proofs.lemmas.Grind.{common_steps}
use Rattle.xfs_rebuild.proofs.bytes.numbers_in.Goals as goal

pub loop-lsn-preserved : goal.loop-lsn-preserved
loop-lsn-preserved c = grind (arith, common_steps)
