-- What is kept of a damaged volume: of the clusters and files that were found in it, those whose blocks no claim of a higher rank has,
-- but no root that is no directory and no system inode that is no empty regular file.
use Rattle.std.specs.Prelude.{ℕ, Bool, not, ◌+◌, ◌&&◌, List, [], ◌∷◌, ◌++◌, map, filter}
use Rattle.std.specs.List.{flat_map}
use Rattle.xfs_kinds.specs.Owners.{clusters_owner}
use Rattle.xfs_disk.specs.Lists.{is_among}
use Rattle.xfs_dirdata.specs.declared.records.EntryRec.{EntryRec}
use Rattle.xfs_geom.specs.Volumes.{Volume}
use Rattle.xfs_geom.specs.declared.records.Run.{Run}
use Rattle.xfs_volume.specs.declared.clusters.ClusterRec.{ClusterRec}
use Rattle.xfs_volume.specs.declared.directories.DirRec.{DirRec}
use Rattle.xfs_volume.specs.declared.files.FileRec.{FileRec}
use Rattle.xfs_views.specs.xfs_space.Owners.{file_runs, new_run}
use Rattle.xfs_naming.specs.Naming.{is_directory_at, is_in_use}
use Rattle.xfs_claims.specs.Keeping.{Holding, kept_of}
use Rattle.xfs_views.specs.Claimed.{claims_in}
use Rattle.xfs_views.specs.Standing.{stands}

-- what is held of the claims of these clusters and files, by their rank
unfoldable pub claims_held : Volume → List ClusterRec → List FileRec → Holding
claims_held v clusters files = kept_of (claims_in v clusters files)

-- the first blocks of the kept clusters, ascending
abbrev pub kept_clusters : Volume → List ClusterRec → List FileRec → List ℕ
kept_clusters v clusters files = (claims_held v clusters files).clusters

-- a file is kept where it is held, and is what the root and the system inodes have to be
abbrev pub is_kept_file : Volume → List ClusterRec → List FileRec → FileRec → Bool
is_kept_file v clusters files f = is_among (claims_held v clusters files).files f.ino && stands v.rootino f

-- the kept files, in their order
unfoldable pub kept_files : Volume → List ClusterRec → List FileRec → List FileRec
kept_files v clusters files = filter (is_kept_file v clusters files) files

-- the root and the two system inodes behind it, and those of them that are made anew since no kept file has the number
abbrev pub own_inodes : ℕ → List ℕ
own_inodes root = root ∷ (root + 1) ∷ (root + 2) ∷ []

abbrev pub fresh_among : List FileRec → ℕ → List ℕ
fresh_among files root = filter (λ ino. not (is_in_use files ino)) (own_inodes root)

abbrev pub fresh_inodes : Volume → List ClusterRec → List FileRec → List ℕ
fresh_inodes v clusters files = fresh_among (kept_files v clusters files) v.rootino

-- what is found of the directories among some files, and their entries
abbrev pub dirs_among : List FileRec → List DirRec → List DirRec
dirs_among files dirs = filter (λ (d : DirRec). is_directory_at files d.ino) dirs

abbrev pub entries_among : List FileRec → List EntryRec → List EntryRec
entries_among files entries = filter (λ (e : EntryRec). is_directory_at files e.dir) entries

-- the kept directories and the entries of these, in their order
abbrev pub kept_dirs : Volume → List ClusterRec → List FileRec → List DirRec → List DirRec
kept_dirs v clusters files dirs = dirs_among (kept_files v clusters files) dirs

abbrev pub entries_of_kept : Volume → List ClusterRec → List FileRec → List EntryRec → List EntryRec
entries_of_kept v clusters files entries = entries_among (kept_files v clusters files) entries

-- the blocks that are taken: those of the kept clusters and those that the kept files claim, with their owners
abbrev pub run_of_cluster : ℕ → Run
run_of_cluster block = new_run block 4 clusters_owner 0

abbrev pub taken_of : Volume → List ℕ → List FileRec → List Run
taken_of v clusters files = map run_of_cluster clusters ++ flat_map (file_runs v) files

unfoldable pub taken_in : Volume → List ClusterRec → List FileRec → List Run
taken_in v clusters files = taken_of v (kept_clusters v clusters files) (kept_files v clusters files)
