use Rattle.xfs_geom.specs.Conversions.{is_fixed}
use Rattle.xfs_image.specs.Claims.{is_claimed, is_claimed_beside, is_of_candidate, is_of_cluster}
use Rattle.xfs_image.specs.Clusters.{cluster_of}
use Rattle.xfs_views.proofs.Taken.{claimed, met}
use Rattle.xfs_views.proofs.taking.claims_take_protection.Goals as goal

pub returns-clause-fixed : goal.returns-clause-fixed
returns-clause-fixed c = λ v image ino block file reads on in_set is. claimed v image ino block file (is_fixed v) reads on in_set is is.unfixed

pub returns-clause-cluster : goal.returns-clause-cluster
returns-clause-cluster c = λ v image ino block file reads on in_set is. claimed v image ino block file (is_of_candidate v image) reads on in_set is is.outside

pub returns-clause-other : goal.returns-clause-other
returns-clause-other c = λ v image ino block file reads on in_set is. claimed v image ino block file (is_claimed_beside v image ino) reads on in_set is is.alone

pub returns-clause-fixed_cluster : goal.returns-clause-fixed_cluster
returns-clause-fixed_cluster c = λ v image ino block on in_set is. met (is_of_cluster (cluster_of v ino)) (is_fixed v) block on in_set is.cluster_unfixed

pub returns-clause-claimed_cluster : goal.returns-clause-claimed_cluster
returns-clause-claimed_cluster c = λ v image ino block on in_set is. met (is_of_cluster (cluster_of v ino)) (is_claimed v image) block on in_set is.cluster_unclaimed
