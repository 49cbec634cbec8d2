-- What an outcome says of the image and of the counts of faults.
use Rattle.std.specs.Prelude.{◌≡◌, ℕ, ◌+◌, ◌<◌, ◌≤◌, ◌⊎◌, Bool, true, false, List, [], length, Option, Some, slice_get}
use Rattle.std.specs.Option.{ForSome}
use Rattle.xfs_disk.specs.Blocks.{Image, bytes_of_block}
use Rattle.xfs_disk.specs.Faults.{Rose}
use Rattle.xfs_disk.specs.declared.stamp.Stamp.{Stamp}
use Rattle.xfs_geom.specs.Superblocks.{is_agreeing}
use Rattle.xfs_geom.specs.Volumes.{stated_volume, volume_of}
use Rattle.xfs_geom.specs.Election.{elected, super_of}
use Rattle.xfs_geom.specs.declared.geometry.Geometry.{Geometry}
use Rattle.xfs_laws.specs.Lawful.{broken_law}
use Rattle.xfs_image.specs.Consistent.{HasFinding, IsConsistent, IsElected, backup_agrees}
use Rattle.xfs_image.specs.Keeping.{Keeps, Protected}
use Rattle.xfs_image.specs.declared.findings.Finding.TheVariants.{Part}
use Rattle.xfs_rename.specs.xfs_rebuild.declared.planning.Rebuilt.{Rebuilt}
use Rattle.xfs_mend.specs.Asked.{Asked}
use Rattle.xfs_backups.specs.Backups.{with_super, start_of, backup_plan}
use Rattle.xfs_mend.specs.Due.{IsAnswer, IsDueRepair, IsOwed}
use Rattle.xfs_mend.specs.Rebuilding.{IsBackupFound, HasPlannedNames, IsPartlyRebuilt, IsPlannedRebuild, IsStoppedAnew, rebuild_writes}
use Rattle.xfs_writing.specs.Writing.{Writes, written, IsPartly}
use Rattle.xfs_writing.specs.Stopped.{IsStopped}
use Rattle.xfs_mend.specs.declared.outcome.Outcome.{Outcome}
use Rattle.xfs_mend.specs.declared.outcome.Outcome.TheVariants.{Clean, Repaired, ReadFault, WriteFault}
use Rattle.xfs_mend.specs.declared.outcome.Summary.TheVariants.{Backups, Rebuilt as Anew}

-- a fault of the disk is answered only where its count rose; a read fault tells the count
abbrev pub IsRepairCause : ℕ → ℕ → ℕ → ℕ → Outcome → Type 0
IsRepairCause faults faults_now write_faults write_faults_now (ReadFault told) = Rose faults faults_now × (told ≡ faults_now)
IsRepairCause faults faults_now write_faults write_faults_now (WriteFault blocks) = Rose write_faults write_faults_now
IsRepairCause faults faults_now write_faults write_faults_now outcome = Unit {0}

-- Every backup agrees with the primary: those that did are as before, of the others the first sector is
-- the primary's. All other blocks are as before.
pub record IsMended (image now : Image) : Type 0 where
  pub count : length now ≡ length image
  pub primary : bytes_of_block now 0 ≡ bytes_of_block image 0
  pub kept : (b : ℕ) → ((group : ℕ) → 1 ≤ group → group < (stated_volume (super_of (bytes_of_block image 0))).agcount → b ≡ start_of (super_of (bytes_of_block image 0)) group → ⊥)
      → bytes_of_block now b ≡ bytes_of_block image b
  pub agreed : (group : ℕ) → 1 ≤ group → group < (stated_volume (super_of (bytes_of_block image 0))).agcount
      → is_agreeing (stated_volume (super_of (bytes_of_block image 0))) (super_of (bytes_of_block image (start_of (super_of (bytes_of_block image 0)) group))) ≡ true
      → bytes_of_block now (start_of (super_of (bytes_of_block image 0)) group) ≡ bytes_of_block image (start_of (super_of (bytes_of_block image 0)) group)
  pub mended : (group : ℕ) → 1 ≤ group → group < (stated_volume (super_of (bytes_of_block image 0))).agcount
      → is_agreeing (stated_volume (super_of (bytes_of_block image 0))) (super_of (bytes_of_block image (start_of (super_of (bytes_of_block image 0)) group))) ≡ false
      → bytes_of_block now (start_of (super_of (bytes_of_block image 0)) group)
      ≡ with_super (super_of (bytes_of_block image 0)) (bytes_of_block image (start_of (super_of (bytes_of_block image 0)) group))

-- nothing was written, as the outcome says
abbrev pub is_quiet : Outcome → Bool
is_quiet (Repaired summary) = false
is_quiet (WriteFault blocks) = false
is_quiet outcome = true

-- Whatever is asked of a further repair, clean is due to the image: each other outcome that may come is a failed read or want of memory,
-- and none says that anything was written.
pub record StaysClean (image : Image) : Type 0 where
  pub clean : (o : Asked) (s : Stamp) → IsAnswer o s image (elected image) Clean
  pub only : (o : Asked) (s : Stamp) (outcome : Outcome) → IsDueRepair o s image outcome → IsOwed (λ due. due ≡ Clean) outcome
  pub quiet : (o : Asked) (s : Stamp) (outcome : Outcome) → IsDueRepair o s image outcome → is_quiet outcome ≡ true

-- A repaired image has just the planned blocks changed, which mends it: all its backups agree from then on, whatever geometry it
-- elects, so none of them is found. By the geometry that the image elected it is consistent, each file that was protected is kept, and a
-- further repair leaves it as it is.
pub record IsRepaired (image : Image) (now : Option Image) : Type 0 where
  pub planned : now ≡ Some (written (backup_plan image) image)
  pub mended : IsMended image (written (backup_plan image) image)
  pub elects : elected (written (backup_plan image) image) ≡ elected image
  pub agree : (g : Geometry) → IsElected (volume_of g) (written (backup_plan image) image) → (ag : ℕ) → 1 ≤ ag → ag < g.agcount
      → backup_agrees (volume_of g) (written (backup_plan image) image) ag ≡ true
  pub found_elsewhere : (ag : ℕ) → HasFinding broken_law (written (backup_plan image) image) (Part 10 ag) → ⊥
  pub geometry : Geometry
  pub states : IsElected (volume_of geometry) image
  pub consistent : IsConsistent broken_law geometry (written (backup_plan image) image)
  pub keeps : (ino : ℕ) → Protected (volume_of geometry) image ino → Keeps (volume_of geometry) image (written (backup_plan image) image) ino
  pub stays : StaysClean (written (backup_plan image) image)

-- A rebuilt image has just the planned blocks, as the summary counts them. Whether names changed or not, it is consistent by the geometry
-- that it elected before, each file that was protected is kept, its directories have the names that are kept or wanted, in their order, and
-- a further repair writes nothing.
pub record IsRebuilt (s : Stamp) (image : Image) (now : Option Image) (blocks kept cleared orphans : ℕ) : Type 0 where
  pub r : Rebuilt
  pub plan : IsPlannedRebuild s image r orphans
  pub is : now ≡ Some (written (rebuild_writes r) image)
  pub counted : blocks ≡ length r.fresh + length r.in_place
  pub kept' : kept ≡ r.kept
  pub cleared' : cleared ≡ r.cleared
  pub consistent : IsConsistent broken_law plan.has.geometry (written (rebuild_writes r) image)
  pub keeps : (ino : ℕ) → Protected (volume_of plan.has.geometry) image ino
      → Keeps (volume_of plan.has.geometry) image (written (rebuild_writes r) image) ino
  pub names : HasPlannedNames plan.has.geometry plan.has.elected.vote.sector s image (written (rebuild_writes r) image) plan.e r orphans plan.is
  pub stays : (o : Asked) (t : Stamp) (outcome : Outcome) → IsDueRepair o t (written (rebuild_writes r) image) outcome
      → is_quiet outcome ≡ true

-- what the disk holds after an outcome of the plan: the written plan after a repair, a part of it after a
-- write fault, else what it held
abbrev pub LeavesOf : Writes → Image → Option Image → Outcome → Type 0
LeavesOf plan image now (Repaired summary) = now ≡ Some (written plan image)
LeavesOf plan image now (WriteFault blocks) = IsPartly plan image blocks now
LeavesOf plan image now outcome = now ≡ Some image

-- What the disk holds after the outcome: what is repaired after a repair; after a write fault a part of what a repair writes, of backups
-- only where a backup is found first; else what it held.
abbrev pub RepairLeaves : Stamp → Image → Option Image → Outcome → Type 0
RepairLeaves s image now (Repaired (Backups count)) = IsBackupFound image × IsRepaired image now
RepairLeaves s image now (Repaired (Anew blocks kept cleared orphans)) = IsRebuilt s image now blocks kept cleared orphans
RepairLeaves s image now (WriteFault blocks) = (IsBackupFound image × IsPartly (backup_plan image) image blocks now) ⊎ IsPartlyRebuilt s image blocks now
RepairLeaves s image now outcome = now ≡ Some image

-- how many blocks were written, as the outcome says
abbrev pub blocks_told : Outcome → ℕ
blocks_told (Repaired (Backups count)) = count
blocks_told (Repaired (Anew blocks kept cleared orphans)) = blocks
blocks_told (WriteFault blocks) = blocks
blocks_told outcome = 0

-- a stop while this plan was written, by an outcome that says that something may have been
abbrev pub StopsOf : Writes → Image → Outcome → Image → Type 0
StopsOf plan image outcome stopped = (is_quiet outcome ≡ false) × IsStopped [] plan image stopped

-- What a stop since the repair began may leave beside what it might have left before: after a repair or a write fault each block is that of
-- the image or as the plan has it, in place only once all fresh ones are; and after every other outcome there is nothing beside.
abbrev pub StopsBy : Stamp → Image → Outcome → Image → Type 0
StopsBy s image outcome stopped = (is_quiet outcome ≡ false) × ((IsBackupFound image × IsStopped [] (backup_plan image) image stopped) ⊎ IsStoppedAnew s image stopped)

-- after a repair a stop leaves just what the disk holds
abbrev pub IsDurableRepair : Type 0 → Option Image → (ℕ → List ℕ → Type 0) → Outcome → Type 0
IsDurableRepair tells now may_leave (Repaired summary) =
    tells → ForSome now (λ image. (b : ℕ) (v : List ℕ) → may_leave b v → slice_get image b ≡ Some v)
IsDurableRepair tells now may_leave outcome = Unit {0}
