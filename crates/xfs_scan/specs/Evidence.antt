-- What the evidence of an image is.
use Rattle.std.specs.Prelude.{◌≡◌, ℕ, List, Result, Ok}
use Rattle.xfs_disk.specs.Blocks.{Image}
use Rattle.xfs_geom.specs.Volumes.{volume_of}
use Rattle.xfs_geom.specs.declared.geometry.Geometry.{Geometry}
use Rattle.xfs_groups.specs.Answers.{lists_of, reserved_lists}
use Rattle.xfs_groups.specs.declared.groups.GroupTrees.{GroupTrees}
use Rattle.xfs_groups.specs.declared.groups.Groups.{Groups}
use Rattle.xfs_log.specs.xfs_heads.declared.log_state.LogState.{LogState}
use Rattle.xfs_volume.specs.declared.catalogs.Catalog.{Catalog}
use Rattle.xfs_volume.specs.declared.clusters.ClusterRec.{ClusterRec}
use Rattle.xfs_image.specs.declared.findings.Finding.{Finding}
use Rattle.xfs_image.specs.Groups.{groups_read}
use Rattle.xfs_image.specs.Candidates.{candidates}
use Rattle.xfs_image.specs.Claims.{candidate_files}
use Rattle.xfs_image.specs.Directories.{dirs_read, entries_read}
use Rattle.xfs_image.specs.View.{log_of, view}
use Rattle.xfs_slots.specs.Facts.{slot_facts}
use Rattle.xfs_slots.specs.Gathered.{bare_inodes}
use Rattle.xfs_dirdata.specs.declared.records.EntryRec.{EntryRec}
use Rattle.xfs_volume.specs.declared.directories.DirRec.{DirRec}
use Rattle.xfs_volume.specs.declared.files.FileRec.{FileRec}
use Rattle.xfs_scan.specs.declared.evidence.Evidence.{Evidence}
use Rattle.xfs_scan.specs.declared.evidence.Seen.{Seen}
use Rattle.xfs_scan.specs.declared.evidence.Seen.TheVariants as Sight
use Rattle.xfs_rounds.specs.declared.facts.SlotFact.{SlotFact}
use Rattle.xfs_slots.specs.declared.inodes.Inodes.{Inodes}

-- the files of an evidence, their entries and their directories: those of the catalog, where they are that catalog's
abbrev pub files_seen : Seen → List FileRec
files_seen (Sight.Whole catalog) = catalog.files
files_seen (Sight.Apart lists told) = lists.files

abbrev pub entries_seen : Seen → List EntryRec
entries_seen (Sight.Whole catalog) = catalog.entries
entries_seen (Sight.Apart lists told) = lists.entries

abbrev pub dirs_seen : Seen → List DirRec
dirs_seen (Sight.Whole catalog) = catalog.dirs
dirs_seen (Sight.Apart lists told) = lists.dirs

-- what the whole image says beside them
abbrev pub view_seen : Seen → Result Catalog Finding
view_seen (Sight.Whole catalog) = Ok catalog
view_seen (Sight.Apart lists told) = told

-- they are the files, the entries and the directories that were gathered
pub record SeesInodes (inodes : Inodes) (seen : Seen) : Type 0 where
  pub files : files_seen seen ≡ inodes.files.items
  pub entries : entries_seen seen ≡ inodes.entries.items
  pub dirs : dirs_seen seen ≡ inodes.dirs.items

-- the candidate clusters with what is kept of their slots; the candidate files, those without attributes, their directories with
-- the entries of these; the reserved blocks of each group; what the whole image says; whether its log is clean
pub record IsEvidence (g : Geometry) (image : Image) (e : Evidence) : Type 0 where
  pub clusters : e.clusters ≡ candidates (volume_of g) image
  pub slots : e.slots ≡ slot_facts (volume_of g) image
  pub files : files_seen e.seen ≡ candidate_files (volume_of g) image
  pub bare : e.bare ≡ bare_inodes (volume_of g) image
  pub entries : entries_seen e.seen ≡ entries_read (volume_of g) image (candidate_files (volume_of g) image)
  pub dirs : dirs_seen e.seen ≡ dirs_read (volume_of g) image (candidate_files (volume_of g) image)
  pub trees : lists_of e.trees ≡ reserved_lists (volume_of g) image
  pub catalog : view_seen e.seen ≡ view g image
  pub log : e.log ≡ log_of (volume_of g) image

-- what the groups of an image give
pub record AreSeen (g : Geometry) (image : Image) (seen : Groups) : Type 0 where
  pub groups : seen.groups ≡ groups_read (volume_of g) image
  pub clusters : seen.clusters ≡ candidates (volume_of g) image
  pub trees : lists_of seen.trees ≡ reserved_lists (volume_of g) image

-- the evidence from its parts
abbrev pub joined_parts : List ClusterRec → List SlotFact → List ℕ → List GroupTrees → Seen → LogState → Evidence
joined_parts clusters slots bare trees seen log = record { clusters = clusters; slots = slots; bare = bare; trees = trees; seen = seen; log = log }
