-- What a rebuild is: what is kept, where the rest is placed, the bytes of the plan, and what of it is written.
use Rattle.std.specs.Prelude.{◌≡◌, ℕ, ◌<◌, Bool, true, false, List}
use Rattle.std.specs.List.{All}
use Rattle.xfs_disk.specs.Blocks.{Image}
use Rattle.xfs_disk.specs.declared.stamp.Stamp.{Stamp}
use Rattle.xfs_geom.specs.Volumes.{Volume, volume_of}
use Rattle.xfs_geom.specs.declared.geometry.Geometry.{Geometry}
use Rattle.xfs_volume.specs.declared.clusters.ClusterRec.{ClusterRec}
use Rattle.xfs_volume.specs.declared.files.FileRec.{FileRec}
use Rattle.xfs_log.specs.xfs_heads.declared.log_state.LogState.{LogState}
use Rattle.xfs_scan.specs.declared.evidence.Evidence.{Evidence}
use Rattle.xfs_naming.specs.Naming.{AreNamed}
use Rattle.xfs_salvage.specs.Claimable.{CanBeSalvaged}
use Rattle.xfs_salvage.specs.declared.found.Salvaged.{Salvaged}
use Rattle.xfs_request.specs.xfs_empty.Planning.{StandsFor}
use Rattle.xfs_place.specs.declared.placed.Placed.{Placed}
use Rattle.xfs_place.specs.declared.wanted.Wanted.{Wanted}
use Rattle.xfs_render.specs.Drafts.{AreInBank}
use Rattle.xfs_render.specs.Rendering.{IsRendered}
use Rattle.xfs_render.specs.declared.bytes.Bytes.{Bytes}
use Rattle.xfs_render.specs.declared.plan.Plan.{Plan}
use Rattle.xfs_render.specs.declared.wanted_slots.SlotWanted.{SlotWanted}
use Rattle.xfs_writing.specs.declared.rows.Row.{Row}
use Rattle.xfs_request.specs.Cycles.{kept_lsns}
use Rattle.xfs_request.specs.Requests.{cleared_count, kept_count, volume_wanted}
use Rattle.xfs_request.specs.Slots.{wanted_slots}
use Rattle.xfs_request.specs.declared.seen.SlotSeen.{SlotSeen}
use Rattle.xfs_made.specs.Handed.{IsKeptOf}
use Rattle.xfs_rebuild.specs.Bytes.{AreAtHand, AreReadOf, file_lsns}
use Rattle.xfs_rebuild.specs.Differing.{left_to_write}
use Rattle.xfs_rebuild.specs.Found.{IsKept, reserved_of, seen_in_evidence}
use Rattle.xfs_rebuild.specs.Names.{due_dirs, due_files, needs_names}
use Rattle.xfs_rebuild.specs.declared.names.DueNames.{DueNames}
use Rattle.xfs_rebuild.specs.declared.names_due.NamesDue.{NamesDue}
use Rattle.xfs_rebuild.specs.declared.planning.Rebuilt.{Rebuilt}

-- what a rebuild goes by: what is kept, what is known of the slots of the candidate clusters, the blocks that are reserved, the log
pub record Ground : Type 0 where
  pub kept : Salvaged
  pub seen : List SlotSeen
  pub reserved : List ℕ
  pub log : LogState

abbrev pub ground : Salvaged → List SlotSeen → List ℕ → LogState → Ground
ground kept seen reserved log = record { kept = kept; seen = seen; reserved = reserved; log = log }

-- what is asked of the volume, and what is wanted of the slots of its kept clusters
abbrev pub asked : Geometry → Ground → Wanted
asked g b = volume_wanted g b.kept b.reserved

abbrev pub slots_asked : Geometry → Stamp → Ground → List SlotWanted
slots_asked g s b = wanted_slots (volume_of g) s b.kept b.seen

-- names would have to change
abbrev pub names_change : Geometry → Stamp → Ground → Bool
names_change g s b = needs_names g.rootino b.kept (slots_asked g s b)

-- the blocks of the plan are made of the superblock, of what the image has at the first block of each group and in the blocks of the
-- kept clusters of which a slot is to change, and of what is wanted of slots
pub record AreBytesOf (g : Geometry) (sector : List ℕ) (s : Stamp) (image : Image) (on : Ground) (b : Bytes) : Type 0 where
  pub at_hand : AreAtHand g sector s on.kept.clusters (slots_asked g s on) b
  pub read : AreReadOf image (kept_lsns (volume_of g) on.kept on.seen (file_lsns (volume_of g) image on.kept.files)) on.log b

-- the blocks of a plan that the image does not hold already, in the two lists of the plan
pub record IsLeft (image : Image) (plan : Plan) (r : Rebuilt) : Type 0 where
  pub bank' : r.bank ≡ plan.bank
  pub fresh' : r.fresh ≡ left_to_write plan.bank image plan.fresh
  pub in_place' : r.in_place ≡ left_to_write plan.bank image plan.in_place

-- a plan renders what is placed for a request, and what is left of the plan is to be written
pub record IsRenderedLeft (w : Wanted) (placed : Placed) (b : Bytes) (image : Image) (r : Rebuilt) : Type 0 where
  pub plan : Plan
  pub rendered : IsRendered w placed b plan
  pub left : IsLeft image plan r

-- what is placed for a request stands, a plan renders it, and what is left of the plan is to be written
pub record IsPlannedFor (w : Wanted) (b : Bytes) (image : Image) (r : Rebuilt) : Type 0 where
  pub placed : Placed
  pub stands : StandsFor w placed
  pub plan : Plan
  pub rendered : IsRendered w placed b plan
  pub left : IsLeft image plan r

-- what is to be written round what is kept, where no name has to change; and how many inodes are then in use and slots are freed
pub record IsPlannedOn (g : Geometry) (sector : List ℕ) (s : Stamp) (image : Image) (on : Ground) (r : Rebuilt) : Type 0 where
  pub named : names_change g s on ≡ false
  pub bytes : Bytes
  pub made : AreBytesOf g sector s image on bytes
  pub planned : IsPlannedFor (asked g on) bytes image r
  pub count : r.kept ≡ kept_count on.kept
  pub freed : r.cleared ≡ cleared_count (slots_asked g s on)

-- it is what an evidence gives a rebuild to go by
pub record IsGround (v : Volume) (e : Evidence) (on : Ground) : Type 0 where
  pub kept' : IsKept v e on.kept
  pub seen' : on.seen ≡ seen_in_evidence v e
  pub reserved' : on.reserved ≡ reserved_of e.trees
  pub log' : on.log ≡ e.log

-- the blocks that are to be written of a volume that is rebuilt round what is kept of an evidence
pub record IsRebuildOf (g : Geometry) (sector : List ℕ) (s : Stamp) (image : Image) (e : Evidence) (r : Rebuilt) : Type 0 where
  pub on : Ground
  pub ground : IsGround (volume_of g) e on
  pub planned : IsPlannedOn g sector s image on r

-- what is to be written are blocks of a disk of this size, with bytes of the bank
pub record CanBeWritten (size : ℕ) (r : Rebuilt) : Type 0 where
  pub first_places : All (λ (row : Row). row.at < size) r.fresh
  pub last_places : All (λ (row : Row). row.at < size) r.in_place
  pub first_inside : AreInBank r.fresh r.bank
  pub last_inside : AreInBank r.in_place r.bank

-- what is kept is so of some clusters and files that can claim their blocks
pub record IsFound (v : Volume) (kept : Salvaged) : Type 0 where
  pub clusters : List ClusterRec
  pub files : List FileRec
  pub can : CanBeSalvaged v clusters files
  pub is : IsKeptOf v clusters files kept

-- what is known of a volume in which a name has to change, from its parts; and that it is so by what a rebuild goes by
abbrev pub names_due_of : Wanted → List SlotWanted → DueNames → List SlotSeen → LogState → NamesDue
names_due_of wanted slots names seen log = record {
  wanted = wanted;
  slots = slots;
  files = names.files;
  entries = names.entries;
  dirs = names.dirs;
  clusters = names.clusters;
  fresh = names.fresh;
  seen = seen;
  log = log;
}

pub record AreNamesDue (g : Geometry) (s : Stamp) (on : Ground) (n : NamesDue) : Type 0 where
  pub wanted' : n.wanted ≡ asked g on
  pub slots' : n.slots ≡ slots_asked g s on
  pub files' : n.files ≡ due_files g.rootino on.kept (slots_asked g s on)
  pub entries' : n.entries ≡ on.kept.entries
  pub dirs' : n.dirs ≡ due_dirs g.rootino on.kept
  pub clusters' : n.clusters ≡ on.kept.clusters
  pub fresh' : n.fresh ≡ on.kept.fresh
  pub seen' : n.seen ≡ on.seen
  pub log' : n.log ≡ on.log
  pub named : AreNamed n.files n.entries n.dirs

-- a name has to change, by what is kept of clusters and files that can claim their blocks
pub record HasNamesDue (g : Geometry) (s : Stamp) (n : NamesDue) : Type 0 where
  pub on : Ground
  pub named : names_change g s on ≡ true
  pub due : AreNamesDue g s on n
  pub found : IsFound (volume_of g) on.kept
