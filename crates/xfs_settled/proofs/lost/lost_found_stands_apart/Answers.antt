use Rattle.xfs_mend.proofs.xfs_rebuild.Known.{known_clusters_lie}
use Rattle.xfs_settled.proofs.Found.{names_due}
use Rattle.xfs_settled.proofs.FoundClusters.{found_inside}
use Rattle.xfs_settled.proofs.Numbers.{lost_apart, lost_low}
use Rattle.xfs_settled.proofs.lost.lost_found_stands_apart.Goals as goal

pub returns-clause-clusters : goal.returns-clause-clusters
returns-clause-clusters c = λ g s image e on n has. known_clusters_lie g s n (names_due g s image e on n has)

pub returns-clause-found : goal.returns-clause-found
returns-clause-found c = found_inside

pub returns-clause-low : goal.returns-clause-low
returns-clause-low c = lost_low

pub returns-clause-apart : goal.returns-clause-apart
returns-clause-apart c = lost_apart
