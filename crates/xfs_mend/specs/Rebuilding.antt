-- What is due to an image that is to be rebuilt, and what is planned of it.
use Rattle.std.specs.Prelude.{◌≡◌, ◌==◌, ℕ, ◌≤◌, ◌+◌, ◌++◌, ◌⊎◌, Bool, true, false, List, length, Option}
use mathlib.Core.Logic.{inl, inr}
use Rattle.xfs_disk.specs.Blocks.{Image}
use Rattle.xfs_disk.specs.declared.stamp.Stamp.{Stamp}
use Rattle.xfs_geom.specs.Volumes.{volume_of}
use Rattle.xfs_geom.specs.declared.geometry.Geometry.{Geometry}
use Rattle.xfs_laws.specs.Lawful.{broken_law}
use Rattle.xfs_image.specs.Consistent.{HasFinding}
use Rattle.xfs_image.specs.declared.findings.Finding.{Finding}
use Rattle.xfs_image.specs.declared.findings.Finding.TheVariants as Found
use Rattle.xfs_empty.specs.Planning.{HasRoom}
use Rattle.xfs_place.specs.Wanted.{FindsNoRoom}
use Rattle.xfs_place.specs.declared.faults.Unplaced.{Unplaced}
use Rattle.xfs_place.specs.declared.faults.Unplaced.TheVariants.{LostFound}
use Rattle.xfs_rename.specs.xfs_request.Requests.{cleared_count, kept_count}
use Rattle.xfs_scan.specs.Evidence.{IsEvidence}
use Rattle.xfs_scan.specs.declared.evidence.Evidence.{Evidence}
use Rattle.xfs_links.specs.Together.{orphans_of}
use Rattle.xfs_names.specs.declared.building.BuiltDirectory.{BuiltDirectory}
use Rattle.xfs_names.specs.declared.records.WantedNames.{WantedNames}
use Rattle.xfs_rename.specs.xfs_rebuild.Rebuilds.{AreNamesDue, Ground, IsGround, IsRebuildOf, asked, names_change, slots_asked}
use Rattle.xfs_rename.specs.xfs_rebuild.declared.names_due.NamesDue.{NamesDue}
use Rattle.xfs_rename.specs.Lost.{lost_due}
use Rattle.xfs_rename.specs.xfs_changes.Nodes.{nodes_of_files}
use Rattle.xfs_rename.specs.Renames.{AreBuilt, FindsNoRoomRenamed, IsRenamed, LacksCluster, cleared_beside, renamed_wanted}
use Rattle.xfs_rename.specs.xfs_rebuild.declared.planning.Rebuilt.{Rebuilt}
use Rattle.xfs_restored.specs.Names.{HasKeptNames, HasWantedNames}
use Rattle.xfs_writing.specs.Stopped.{IsStopped}
use Rattle.xfs_writing.specs.Writing.{IsPartly, Writes, writes_of_rows}
use Rattle.xfs_mend.specs.declared.outcome.Outcome.{Outcome}
use Rattle.xfs_mend.specs.declared.outcome.Outcome.TheVariants.{NoRoom, Repaired}
use Rattle.xfs_mend.specs.declared.outcome.Summary.TheVariants.{Rebuilt as Anew}

-- a backup superblock is found
abbrev pub is_backup : Finding → Bool
is_backup (Found.Part part place) = part == 10
is_backup (Found.Law law) = false

-- this is what an image gives a rebuild to go by
pub record IsGroundOf (g : Geometry) (image : Image) (on : Ground) : Type 0 where
  pub e : Evidence
  pub evidence : IsEvidence g image e
  pub ground : IsGround (volume_of g) e on

-- a name or a directory has to change, and this is then known of the volume
pub record IsNamesDue (g : Geometry) (s : Stamp) (image : Image) (n : NamesDue) : Type 0 where
  pub on : Ground
  pub ground : IsGroundOf g image on
  pub named : names_change g s on ≡ true
  pub due : AreNamesDue g s on n

-- no name has to change, and all finds room: so many inodes are then in use, so many slots freed, and none is put into lost+found
pub record IsKeptDue (g : Geometry) (s : Stamp) (image : Image) (kept cleared orphans : ℕ) : Type 0 where
  pub on : Ground
  pub ground : IsGroundOf g image on
  pub named : names_change g s on ≡ false
  pub room : HasRoom (asked g on)
  pub kept' : kept ≡ kept_count on.kept
  pub cleared' : cleared ≡ cleared_count (slots_asked g s on)
  pub none : orphans ≡ 0

-- Names have to change, and all finds room, with the directories that are built anew and with lost+found, which has an inode or a cluster to
-- be made in where it is needed: so many files are then in use, so many slots freed, not counting that of lost+found, and so many files put
-- into it, which have no name.
pub record IsRenamedDue (g : Geometry) (n : NamesDue) (kept cleared orphans : ℕ) : Type 0 where
  pub found : LacksCluster g n → ⊥
  pub w : WantedNames
  pub built : List BuiltDirectory
  pub names : AreBuilt g n w built
  pub room : HasRoom (renamed_wanted g n w built)
  pub kept' : kept ≡ length w.links
  pub cleared' : cleared ≡ cleared_beside (lost_due g n) n.slots
  pub orphans' : orphans ≡ length (orphans_of (nodes_of_files n.files) n.entries g.rootino)

-- The volume is to be rebuilt, and all finds room, by cases: no name has to change, or some have to. How many blocks are written is said
-- where it is said what is left.
abbrev pub IsAnewDue : Geometry → Stamp → Image → ℕ → ℕ → ℕ → Type 0
IsAnewDue g s image kept cleared orphans =
    IsKeptDue g s image kept cleared orphans ⊎ ((n : NamesDue) × IsNamesDue g s image n × IsRenamedDue g n kept cleared orphans)

-- no name has to change, and this finds no room first
pub record IsKeptWithoutRoom (g : Geometry) (s : Stamp) (image : Image) (what : Unplaced) : Type 0 where
  pub on : Ground
  pub ground : IsGroundOf g image on
  pub named : names_change g s on ≡ false
  pub finds : FindsNoRoom (asked g on) what

-- names have to change, and this finds no room: lost+found, which needs a cluster, before all else
abbrev pub IsRenamedWithoutRoom : Geometry → NamesDue → Unplaced → Type 0
IsRenamedWithoutRoom g n what = ((what ≡ LostFound) × LacksCluster g n) ⊎ FindsNoRoomRenamed g n what

abbrev pub IsWithoutRoomDue : Geometry → Stamp → Image → Unplaced → Type 0
IsWithoutRoomDue g s image what =
    IsKeptWithoutRoom g s image what ⊎ ((n : NamesDue) × IsNamesDue g s image n × IsRenamedWithoutRoom g n what)

-- the outcome is the one that is due to an image that is to be rebuilt
abbrev pub IsDueRebuild : Geometry → Stamp → Image → Outcome → Type 0
IsDueRebuild g s image (Repaired (Anew blocks kept cleared orphans)) = IsAnewDue g s image kept cleared orphans
IsDueRebuild g s image (NoRoom what) = IsWithoutRoomDue g s image what
IsDueRebuild g s image outcome = ⊥

-- names have to change, and this is planned of it
pub record IsRenamingOf (g : Geometry) (sector : List ℕ) (s : Stamp) (image : Image) (e : Evidence) (r : Rebuilt) (orphans : ℕ) : Type 0 where
  pub on : Ground
  pub ground : IsGround (volume_of g) e on
  pub named : names_change g s on ≡ true
  pub n : NamesDue
  pub due : AreNamesDue g s on n
  pub renamed : IsRenamed g sector s image n (record { rebuilt = r; orphans = orphans })

-- a plan for an evidence, and how many inodes it puts into lost+found: none where no name has to change
abbrev pub IsRepairPlan : Geometry → List ℕ → Stamp → Image → Evidence → Rebuilt → ℕ → Type 0
IsRepairPlan g sector s image e r orphans = (IsRebuildOf g sector s image e r × (orphans ≡ 0)) ⊎ IsRenamingOf g sector s image e r orphans

-- the names that the volume has once a plan is written: those that are kept, or those that are wanted
abbrev pub HasPlannedNames : (g : Geometry) (sector : List ℕ) (s : Stamp) (image now : Image) (e : Evidence) (r : Rebuilt) (orphans : ℕ) → IsRepairPlan g sector s image e r orphans → Type 0
HasPlannedNames g sector s image now e r orphans (inl is) = HasKeptNames g is.0.on now
HasPlannedNames g sector s image now e r orphans (inr is) = HasWantedNames g is.n is.renamed.w now

-- This is planned of an image in which something else than a backup superblock is found first: the blocks round what is kept of its
-- evidence that differ from its own. The superblock is the one that it elects.
pub record IsPlannedRebuild (s : Stamp) (image : Image) (r : Rebuilt) (orphans : ℕ) : Type 0 where
  pub found : Finding
  pub has : HasFinding broken_law image found
  pub other : is_backup found ≡ false
  pub e : Evidence
  pub evidence : IsEvidence has.geometry image e
  pub is : IsRepairPlan has.geometry has.elected.vote.sector s image e r orphans

-- what is written of it: fresh blocks before those in place, and each of the two
abbrev pub rebuild_writes : Rebuilt → Writes
rebuild_writes r = writes_of_rows r.bank (r.fresh ++ r.in_place)

abbrev pub first_writes : Rebuilt → Writes
first_writes r = writes_of_rows r.bank r.fresh

abbrev pub last_writes : Rebuilt → Writes
last_writes r = writes_of_rows r.bank r.in_place

-- a backup superblock is found first in an image
abbrev pub IsBackupFound : Image → Type 0
IsBackupFound image = (ag : ℕ) × HasFinding broken_law image (Found.Part 10 ag)

-- so many blocks of what is planned were written, and perhaps the next one
pub record IsPartlyRebuilt (s : Stamp) (image : Image) (blocks : ℕ) (now : Option Image) : Type 0 where
  pub r : Rebuilt
  pub orphans : ℕ
  pub plan : IsPlannedRebuild s image r orphans
  pub most : blocks ≤ length r.fresh + length r.in_place
  pub is : IsPartly (rebuild_writes r) image blocks now

-- a stop while what is planned was written
pub record IsStoppedAnew (s : Stamp) (image stopped : Image) : Type 0 where
  pub r : Rebuilt
  pub orphans : ℕ
  pub plan : IsPlannedRebuild s image r orphans
  pub is : IsStopped (first_writes r) (last_writes r) image stopped
