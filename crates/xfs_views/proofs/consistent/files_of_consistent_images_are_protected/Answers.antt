use Rattle.xfs_geom.specs.Volumes.{volume_of}
use Rattle.xfs_image.specs.Candidates.{candidates}
use Rattle.xfs_image.specs.Files.{clusters_from, clusters_of}
use Rattle.xfs_views.proofs.Members.{contained, contains}
use Rattle.xfs_views.proofs.Regular.{candidates_are, regular_protected}
use Rattle.xfs_views.proofs.consistent.files_of_consistent_images_are_protected.Goals as goal

pub returns-clause-protected : goal.returns-clause-protected
returns-clause-protected c = regular_protected

pub returns-clause-clusters : goal.returns-clause-clusters
unfolding clusters_of
returns-clause-clusters c = λ g image is cluster has.
    contains cluster.block (clusters_from (volume_of g) 0 is.catalog.groups) (candidates_are g image is cluster (contained cluster (candidates (volume_of g) image) has))
