use Rattle.std.proofs.Common.{refl}
use Rattle.xfs_collections.specs.Blocks.{meets}
use Rattle.xfs_views.proofs.examples.lost_examples.Goals as goal

pub returns-clause-both : goal.returns-clause-both
unfolding meets
returns-clause-both c = refl

pub returns-clause-on_fixed : goal.returns-clause-on_fixed
unfolding meets
returns-clause-on_fixed c = refl

pub returns-clause-on_cluster : goal.returns-clause-on_cluster
unfolding meets
returns-clause-on_cluster c = refl

pub returns-clause-on_other : goal.returns-clause-on_other
unfolding meets
returns-clause-on_other c = refl

pub returns-clause-cluster_fixed : goal.returns-clause-cluster_fixed
unfolding meets
returns-clause-cluster_fixed c = refl

pub returns-clause-cluster_claimed : goal.returns-clause-cluster_claimed
unfolding meets
returns-clause-cluster_claimed c = refl
