use Rattle.std.proofs.Common.{refl}
use Rattle.xfs_treebuild.proofs.PackingExact.{clear_run}
use Rattle.xfs_treebuild.proofs.blocks.clear_block.Goals as goal

pub returns : goal.returns
returns c = λ at width inside. clear_run _ 4096 at width refl inside
