-- What is kept of what an evidence found, and what its volume reserves.
use Rattle.std.specs.Prelude.{◌≡◌, ℕ, List}
use Rattle.std.specs.List.{flat_map}
use Rattle.xfs_geom.specs.Volumes.{Volume}
use Rattle.xfs_groups.specs.declared.groups.GroupTrees.{GroupTrees}
use Rattle.xfs_scan.specs.Evidence.{dirs_seen, entries_seen, files_seen}
use Rattle.xfs_scan.specs.declared.evidence.Evidence.{Evidence}
use Rattle.xfs_salvage.specs.Kept.{entries_of_kept, fresh_inodes, kept_clusters, kept_dirs, kept_files}
use Rattle.xfs_salvage.specs.declared.found.Salvaged.{Salvaged}
use Rattle.xfs_request.specs.declared.seen.SlotSeen.{SlotSeen}
use Rattle.xfs_rebuild.specs.Seen.{slots_seen}

-- the clusters and the files are those that are kept of what was found, with what is made anew, the directories and their entries
pub record IsKept (v : Volume) (e : Evidence) (kept : Salvaged) : Type 0 where
  pub clusters' : kept.clusters ≡ kept_clusters v e.clusters (files_seen e.seen)
  pub files' : kept.files ≡ kept_files v e.clusters (files_seen e.seen)
  pub fresh' : kept.fresh ≡ fresh_inodes v e.clusters (files_seen e.seen)
  pub entries' : kept.entries ≡ entries_of_kept v e.clusters (files_seen e.seen) (entries_seen e.seen)
  pub dirs' : kept.dirs ≡ kept_dirs v e.clusters (files_seen e.seen) (dirs_seen e.seen)

-- the reserved blocks of some groups
abbrev pub reserved_of : List GroupTrees → List ℕ
reserved_of trees = flat_map (λ (t : GroupTrees). t.reserved) trees

-- what is known of the slots of the candidate clusters
abbrev pub seen_in_evidence : Volume → Evidence → List SlotSeen
seen_in_evidence v e = slots_seen v e.clusters e.slots e.bare
