-- What is handed to whoever asks what a volume needs that is rebuilt.
use Rattle.std.specs.Prelude.{◌≡◌, List}
use Rattle.xfs_geom.specs.Volumes.{Volume}
use Rattle.xfs_volume.specs.declared.clusters.ClusterRec.{ClusterRec}
use Rattle.xfs_volume.specs.declared.files.FileRec.{FileRec}
use Rattle.xfs_request.specs.xfs_salvage.Kept.{fresh_inodes, kept_clusters, kept_files}
use Rattle.xfs_request.specs.xfs_salvage.declared.found.Salvaged.{Salvaged}

-- it is what is kept of these clusters and files
pub record IsKeptOf (v : Volume) (clusters : List ClusterRec) (files : List FileRec) (kept : Salvaged) : Type 0 where
  pub clusters' : kept.clusters ≡ kept_clusters v clusters files
  pub files' : kept.files ≡ kept_files v clusters files
  pub fresh' : kept.fresh ≡ fresh_inodes v clusters files
