use Rattle.xfs_made.proofs.Just.{keeps_just}
use Rattle.xfs_made.proofs.kept_chunks.chunks_are_those_kept.Goals as goal

pub returns : goal.returns
returns c = keeps_just
