use Rattle.xfs_render.proofs.ReadyWanted.{few_chunks}
use Rattle.xfs_render.proofs.readiness.chunks_are_few.Goals as goal

pub returns : goal.returns
returns c = few_chunks c.args._wanted.now c.args._wanted.now.geometry.shape.groups c.requires
