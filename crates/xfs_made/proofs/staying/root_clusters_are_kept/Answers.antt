use Rattle.xfs_made.proofs.Roots.{root_kept}
use Rattle.xfs_made.proofs.staying.root_clusters_are_kept.Goals as goal

pub returns : goal.returns
returns c = root_kept
