-- What a second image has of a first one round which it was rebuilt.
use Rattle.std.specs.Prelude.{◌≡◌, ℕ, Bool, if◌then◌else◌, List, map}
use Rattle.std.specs.List.{All, Contains}
use Rattle.xfs_word.specs.Field.{field_of}
use Rattle.xfs_disk.specs.Blocks.{Image}
use Rattle.xfs_disk.specs.declared.stamp.Stamp.{Stamp}
use Rattle.xfs_geom.specs.Volumes.{Volume, volume_of}
use Rattle.xfs_geom.specs.declared.geometry.Geometry.{Geometry}
use Rattle.xfs_inode.specs.declared.files.FileRead.{FileRead}
use Rattle.xfs_inode.specs.declared.files.FileRead.TheVariants as Reads
use Rattle.xfs_image.specs.Candidates.{candidates}
use Rattle.xfs_image.specs.Claims.{candidate_files, candidate_inodes}
use Rattle.xfs_image.specs.Slots.{reads_as, slot_bytes}
use Rattle.xfs_rounds.specs.declared.facts.SlotReading.{SlotReading}
use Rattle.xfs_rounds.specs.declared.facts.SlotReading.TheVariants as Reading
use Rattle.xfs_views.specs.SameFiles.{HasSameClaims}
use Rattle.xfs_render.specs.Slots.{IsSlotDue}
use Rattle.xfs_salvage.specs.declared.found.Salvaged.{Salvaged}
use Rattle.xfs_rename.specs.xfs_request.Slots.{wanted_slots}
use Rattle.xfs_rename.specs.xfs_request.declared.seen.SlotSeen.{SlotSeen}
use Rattle.xfs_rename.specs.xfs_request.declared.seen.SlotState.{SlotState}
use Rattle.xfs_rename.specs.xfs_request.declared.seen.SlotState.TheVariants as State
use Rattle.xfs_rename.specs.xfs_made.Handed.{IsKeptOf}
use Rattle.xfs_restored.specs.DueFiles.{kept_inodes}

-- what is known of a slot by what it reads as
abbrev pub state_read : FileRead → SlotState
state_read Reads.Free = State.Free
state_read (Reads.File file) = State.Other
state_read (Reads.FileWithoutAttrs file) = State.Bare
state_read (Reads.Unsupported what) = State.Other
state_read Reads.Unsound = State.Other

-- what is known of the slot of an inode, and the same of all slots of the candidate clusters
abbrev pub slot_seen : Volume → Image → ℕ → SlotSeen
slot_seen v image ino = record { ino = ino; state = state_read (reads_as v image ino); lsn = field_of (slot_bytes v image ino) 112 8 }

unfoldable pub all_slots_seen : Volume → Image → List SlotSeen
all_slots_seen v image = map (slot_seen v image) (candidate_inodes v image)

-- The second image has what is kept of the first: each slot of the kept clusters is what is wanted of it, made of what stood there, and
-- the blocks that each kept file claims hold the same bytes.
pub record HasKept (g : Geometry) (s : Stamp) (image now : Image) (kept : Salvaged) (seen : List SlotSeen) : Type 0 where
  pub of : IsKeptOf (volume_of g) (candidates (volume_of g) image) (candidate_files (volume_of g) image) kept
  pub seen' : seen ≡ all_slots_seen (volume_of g) image
  pub slots : (ino : ℕ) → Contains (kept_inodes (volume_of g) kept) ino
      → IsSlotDue (volume_of g) s.generation (wanted_slots (volume_of g) s kept seen) ino (slot_bytes (volume_of g) image ino) (slot_bytes (volume_of g) now ino)
  pub claims : All (HasSameClaims (volume_of g) image now) kept.files

-- what is known of a slot by what it reads as by itself, and by whether its file is one whose attributes do not read
abbrev pub state_by : Bool → SlotReading → SlotState
state_by bare Reading.Free = State.Free
state_by bare Reading.InUse = if bare then State.Bare else State.Other
state_by bare Reading.Unsound = State.Other
