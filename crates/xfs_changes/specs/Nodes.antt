-- The files of a volume as nodes of its tree of names, and the inodes of its clusters.
use Rattle.std.specs.Prelude.{ℕ, List, map}
use Rattle.xfs_geom.specs.Conversions.{inode_of}
use Rattle.xfs_geom.specs.Volumes.{Volume}
use Rattle.xfs_links.specs.declared.records.NodeRec.{NodeRec}
use Rattle.xfs_names.specs.Having.{node_of}
use Rattle.xfs_volume.specs.declared.files.FileRec.{FileRec}

abbrev pub nodes_of_files : List FileRec → List NodeRec
nodes_of_files files = map node_of files

-- the first inode of a cluster, by its first block; and those of some clusters
abbrev pub first_of_cluster : Volume → ℕ → ℕ
first_of_cluster v cluster = inode_of v cluster 0

abbrev pub firsts_of_clusters : Volume → List ℕ → List ℕ
firsts_of_clusters v clusters = map (first_of_cluster v) clusters
