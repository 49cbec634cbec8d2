use Rattle.xfs_made.proofs.Used.{asked_due}
use Rattle.xfs_made.proofs.kept_chunks.chunks_say_who_is_used.Goals as goal

pub returns : goal.returns
returns c = asked_due
