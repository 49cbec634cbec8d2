-- Laws about an image that holds the plan of a rebuild in which names change. Each function does nothing; its contract is the laws.
use Rattle.std.specs.Prelude.{◌≡◌, ◌+◌, ◌≤◌, ◌<◌, ℕ, true, false, List, [], ◌∷◌, length, map, None}
use Rattle.std.specs.List.{All, AllByRecursion, Contains, flat_map, range_with_len}
use Rattle.xfs_disk.specs.Blocks.{Image, bytes_of_block}
use Rattle.xfs_disk.specs.declared.stamp.Stamp.{Stamp}
use Rattle.xfs_geom.specs.Volumes.{volume_of}
use Rattle.xfs_geom.specs.declared.geometry.Geometry.{Geometry}
use Rattle.xfs_image.specs.Slots.{cluster_inodes, reads_as, slot_bytes}
use Rattle.xfs_inode.specs.declared.files.FileRead.{FileRead}
use Rattle.xfs_volume.specs.declared.files.FileRec.{FileRec}
use Rattle.xfs_naming.specs.Naming.{NumbersAscend}
use Rattle.xfs_names.specs.declared.records.WantedNames.{WantedNames}
use Rattle.xfs_place.specs.Pool.{is_listed}
use Rattle.xfs_render.specs.Plans.{HoldsPlan, IsOnce, planned}
use Rattle.xfs_render.specs.Slots.{IsMadeSlot, IsSlotDue, wanted_of}
use Rattle.xfs_rename.specs.xfs_made.Standing.{IsStanding}
use Rattle.xfs_rename.specs.xfs_rebuild.declared.names_due.NamesDue.{NamesDue}
use Rattle.xfs_restored.specs.Rewriting.{IsRewritten}
use Rattle.xfs_rename.specs.Lost.{lost_due}
use Rattle.xfs_rename.specs.xfs_changes.Nodes.{first_of_cluster}
use Rattle.xfs_rename.specs.Renames.{IsRenamed, old_files, placed_forks, renamed_slots, renamed_wanted}
use Rattle.xfs_rename.specs.Settled.{AreWanted, settled}
use Rattle.xfs_rename.specs.declared.planning.Renamed.{Renamed}
use Rattle.xfs_restored.specs.Changes.{LeavesRoom, LinksAscend, SlotsAscend, lost_slot}

-- In an image as large as the volume that holds the plan stands what was rendered (`stands`), and each slot of the clusters that the
-- volume then has, a new one among them, is what was wanted of it, made of what stood there (`slots`), where the blocks that are not
-- planned stay: a block of which nothing is wanted is not.
abbrev pub RenamedSlotsAreDueStands : Type 0
RenamedSlotsAreDueStands = (g : Geometry) (sector : List ℕ) (s : Stamp) (image now : Image) (n : NamesDue) (r : Renamed) (is : IsRenamed g sector s image n r)
    → HoldsPlan now is.left.plan → g.dblocks ≤ length now → IsStanding (renamed_wanted g n is.w is.built) is.placed is.bytes is.left.rendered.super now

-- of the same, `slots`
abbrev pub RenamedSlotsAreDueSlots : Type 0
RenamedSlotsAreDueSlots = (g : Geometry) (sector : List ℕ) (s : Stamp) (image now : Image) (n : NamesDue) (r : Renamed) (is : IsRenamed g sector s image n r)
    → HoldsPlan now is.left.plan → g.dblocks ≤ length now
    → ((block : ℕ) → is_listed (planned is.left.plan) block ≡ false → bytes_of_block now block ≡ bytes_of_block image block)
    → (ino : ℕ) → Contains (flat_map (cluster_inodes (volume_of g)) (settled n (lost_due g n) is.w).clusters) ino
    → IsSlotDue (volume_of g) s.generation (renamed_slots g s n is.w (placed_forks g n is.w is.built is.placed)) ino
    (slot_bytes (volume_of g) image ino) (slot_bytes (volume_of g) now ino)

-- At most one cluster is new (`few`). Where one is, its 32 inodes follow each other (`inodes`), and the first is lost+found, which is
-- then made (`lost`): its slot is made as one (`first`). The 31 others are free (`free`).
abbrev pub NewClustersReadFew : Type 0
NewClustersReadFew = (g : Geometry) (n : NamesDue) → length (lost_due g n).added ≤ 1

-- of the same, `lost`
abbrev pub NewClustersReadLost : Type 0
NewClustersReadLost = (g : Geometry) (n : NamesDue) (cluster : ℕ) → (lost_due g n).added ≡ cluster ∷ []
    → ((lost_due g n).new ≡ first_of_cluster (volume_of g) cluster) × ((lost_due g n).made ≡ true)

-- of the same, `inodes`
abbrev pub NewClustersReadInodes : Type 0
NewClustersReadInodes = (g : Geometry) (sector : List ℕ) (s : Stamp) (image now : Image) (n : NamesDue) (r : Renamed) (is : IsRenamed g sector s image n r)
    → HoldsPlan now is.left.plan → g.dblocks ≤ length now → (cluster : ℕ) → (lost_due g n).added ≡ cluster ∷ []
    → cluster_inodes (volume_of g) cluster ≡ range_with_len (first_of_cluster (volume_of g) cluster) 32

-- of the same, `first`
abbrev pub NewClustersReadFirst : Type 0
NewClustersReadFirst = (g : Geometry) (sector : List ℕ) (s : Stamp) (image now : Image) (n : NamesDue) (r : Renamed) (is : IsRenamed g sector s image n r)
    → HoldsPlan now is.left.plan → g.dblocks ≤ length now → (cluster : ℕ) → (lost_due g n).added ≡ cluster ∷ [] → LinksAscend (lost_due g n) 0 is.w.links
    → SlotsAscend 0 n.slots → (k : ℕ) → Contains is.w.links (first_of_cluster (volume_of g) cluster, k) → wanted_of n.slots (first_of_cluster (volume_of g) cluster) ≡ None
    → IsMadeSlot (volume_of g) s.generation
    (lost_slot (volume_of g) s (old_files n is.w) (placed_forks g n is.w is.built is.placed) (first_of_cluster (volume_of g) cluster, k))
    (slot_bytes (volume_of g) image (first_of_cluster (volume_of g) cluster)) (slot_bytes (volume_of g) now (first_of_cluster (volume_of g) cluster))

-- of the same, `free`
abbrev pub NewClustersReadFree : Type 0
NewClustersReadFree = (g : Geometry) (sector : List ℕ) (s : Stamp) (image now : Image) (n : NamesDue) (r : Renamed) (is : IsRenamed g sector s image n r)
    → HoldsPlan now is.left.plan → g.dblocks ≤ length now → (cluster : ℕ) → (lost_due g n).added ≡ cluster ∷ [] → LinksAscend (lost_due g n) 0 is.w.links
    → SlotsAscend 0 n.slots → (k : ℕ) → Contains is.w.links (first_of_cluster (volume_of g) cluster, k) → (j : ℕ) → j < 31
    → wanted_of n.slots (first_of_cluster (volume_of g) cluster + 1 + j) ≡ None → reads_as (volume_of g) now (first_of_cluster (volume_of g) cluster + 1 + j) ≡ FileRead.Free

-- No block is planned twice (`once`), and all lie in the volume (`inside`). So an image in which what was to be written was written
-- holds the whole plan (`held`), and each block that is not planned is as it was (`others`).
abbrev pub RenamedImagesHoldThePlanOnce : Type 0
RenamedImagesHoldThePlanOnce = (g : Geometry) (sector : List ℕ) (s : Stamp) (image : Image) (n : NamesDue) (r : Renamed) (is : IsRenamed g sector s image n r) → IsOnce (planned is.left.plan)

-- of the same, `inside`
abbrev pub RenamedImagesHoldThePlanInside : Type 0
RenamedImagesHoldThePlanInside = (g : Geometry) (sector : List ℕ) (s : Stamp) (image : Image) (n : NamesDue) (r : Renamed) (is : IsRenamed g sector s image n r)
    → All (λ block. block < g.dblocks) (planned is.left.plan)

-- of the same, `held`
abbrev pub RenamedImagesHoldThePlanHeld : Type 0
RenamedImagesHoldThePlanHeld = (g : Geometry) (sector : List ℕ) (s : Stamp) (image : Image) (n : NamesDue) (r : Renamed) (is : IsRenamed g sector s image n r) → (now : Image)
    → IsRewritten g r.rebuilt image now → HoldsPlan now is.left.plan

-- of the same, `others`
abbrev pub RenamedImagesHoldThePlanOthers : Type 0
RenamedImagesHoldThePlanOthers = (g : Geometry) (sector : List ℕ) (s : Stamp) (image : Image) (n : NamesDue) (r : Renamed) (is : IsRenamed g sector s image n r) → (now : Image)
    → IsRewritten g r.rebuilt image now → (block : ℕ) → is_listed (planned is.left.plan) block ≡ false → bytes_of_block now block ≡ bytes_of_block image block

-- Where files ascend by number, none of them is lost+found where that is new, nor one of the other inodes of its new cluster, the
-- files that there are to be, with lost+found, leave room for these.
abbrev pub LinksLeaveRoom : Type 0
LinksLeaveRoom = (g : Geometry) (n : NamesDue) (w : WantedNames) → AreWanted g n (lost_due g n) w → NumbersAscend 0 (map (λ (f : FileRec). f.ino) n.files)
    → AllByRecursion (λ (f : FileRec). LeavesRoom (lost_due g n) f.ino) n.files → LinksAscend (lost_due g n) 0 w.links
