-- All slots read as they are due, where the blocks of long targets hold these.
use Rattle.std.proofs.Common.{◌≡◌, ℕ, true, false, ◌^◌, ◌<◌, nat_le, List, [], length, refl, ap}
use Rattle.xfs_word.specs.declared.extents.Extent.{Extent}
use Rattle.xfs_disk.specs.Blocks.{Image}
use Rattle.xfs_disk.specs.declared.stamp.Stamp.{Stamp}
use Rattle.xfs_geom.specs.Volumes.{Volume, volume_of}
use Rattle.xfs_geom.specs.declared.geometry.Geometry.{Geometry}
use Rattle.xfs_geom.specs.declared.records.Run.{Run}
use Rattle.xfs_inode.specs.Files.{has_link_target, target_in}
use Rattle.xfs_place.specs.Wanted.{kept_runs}
use Rattle.xfs_render.specs.declared.plan.Plan.{Plan}
use Rattle.xfs_image.specs.Slots.{slot_bytes}
use Rattle.xfs_proto.specs.declared.protofile.ProtoKind.{ProtoKind}
use Rattle.xfs_proto.specs.declared.protofile.ProtoKind.TheVariants as Kind
use Rattle.xfs_proto.specs.declared.protofile.ProtoNode.{ProtoNode}
use Rattle.xfs_filled.specs.Chunks.{chunk_starts, spared_list}
use Rattle.xfs_filled.specs.Directories.{made_directory_at}
use Rattle.xfs_filled.specs.FileTrees.{node_at, object_order}
use Rattle.xfs_filled.specs.Forks.{extent_fork, extents_of_owner}
use Rattle.xfs_filled.specs.Numbers.{number_of}
use Rattle.xfs_filled.specs.Objects.{blocks_of_length, content_at, run_of, runs_of_kind}
use Rattle.xfs_filled.specs.Spans.{AreRunsOf}
use Rattle.xfs_filled.specs.Wanting.{filled_wanted}
use Rattle.xfs_filled.proofs.Holding.{hold_all}
use Rattle.xfs_populated.specs.FilledSlots.{ReadAsDue}
use Rattle.xfs_populated.specs.Populated.{IsPopulated}
use Rattle.xfs_populated.proofs.FileExtents.{content_small, file_extents}
use Rattle.xfs_populated.proofs.FileSized.{sound_at}
use Rattle.xfs_populated.proofs.SlotFiles.{link, tree}
use Rattle.xfs_populated.proofs.SlotKinds.{AreFileExtents, forked_core}
use Rattle.xfs_populated.proofs.SlotsRead.{HasBlocks, HasBlocksOf, populated_at, slots_read}

module _ (g : Geometry) (s : Stamp) (starts : List ℕ) (ns : List ProtoNode) (contents : List (List ℕ)) (runs : List Run) (image : Image) (k : ℕ) where
  abbrev v : Volume
  v = volume_of g

  abbrev slot : List ℕ
  slot = slot_bytes v image (number_of v starts k)

  abbrev es : List Extent
  es = extents_of_owner v (number_of v starts k) runs

  -- the block that the slot of a link with a long target names holds it
  abbrev pub HasTargetOf : ProtoKind → Type 0
  HasTargetOf (Kind.Regular name line) = Unit {0}
  HasTargetOf Kind.Directory = Unit {0}
  HasTargetOf (Kind.Link target) =
      nat_le (length target) 336 ≡ false
      → (has_link_target v (number_of v starts k)
      (forked_core v s starts ns k slot (tree v s starts ns contents runs image k) (link v s starts ns contents runs image k) (extent_fork (length target) es)) slot (link v s starts ns contents runs image k) ≡ true)
      × (target_in (forked_core v s starts ns k slot (tree v s starts ns contents runs image k) (link v s starts ns contents runs image k) (extent_fork (length target) es)) (link v s starts ns contents runs image k) ≡ target)
  HasTargetOf (Kind.Block major minor) = Unit {0}
  HasTargetOf (Kind.Character major minor) = Unit {0}
  HasTargetOf Kind.Pipe = Unit {0}

  abbrev pub HasTarget : Type 0
  HasTarget = HasTargetOf (node_at ns k).kind

  blocks_of : (kind : ProtoKind) → (node_at ns k).kind ≡ kind → AreFileExtents v es
      → (runs_of_kind (node_at ns k).kind (made_directory_at v starts ns k) (content_at contents k) (number_of v starts k) ≡ run_of (blocks_of_length (length (content_at contents k))) (number_of v starts k) 0
      → length (content_at contents k) < 2 ^ 63)
      → HasTargetOf kind → HasBlocksOf g s starts ns contents runs image k kind
  blocks_of (Kind.Regular name line) is extents small target =
      (extents, small (ap (λ (kind : ProtoKind). runs_of_kind kind (made_directory_at v starts ns k) (content_at contents k) (number_of v starts k)) is))
  blocks_of Kind.Directory is extents small target = extents
  blocks_of (Kind.Link bytes) is extents small target = λ long. let held = target long in (extents, held.0, held.1)
  blocks_of (Kind.Block major minor) is extents small target = tt
  blocks_of (Kind.Character major minor) is extents small target = tt
  blocks_of Kind.Pipe is extents small target = tt

  pub has_blocks : AreFileExtents v es
      → (runs_of_kind (node_at ns k).kind (made_directory_at v starts ns k) (content_at contents k) (number_of v starts k) ≡ run_of (blocks_of_length (length (content_at contents k))) (number_of v starts k) 0
      → length (content_at contents k) < 2 ^ 63)
      → HasTarget → HasBlocks g s starts ns contents runs image k
  has_blocks extents small target = blocks_of (node_at ns k).kind refl extents small target

-- the runs of files stand in their order
pub populated_runs : (g : Geometry) (sector : List ℕ) (s : Stamp) (ns : List ProtoNode) (contents : List (List ℕ)) (plan : Plan) (blocks : ℕ) (image : Image)
    → (is : IsPopulated g sector s ns contents plan blocks image) → AreRunsOf (volume_of g) (chunk_starts g (length ns)) (object_order ns) is.filled.placed.runs
populated_runs g sector s ns contents plan blocks image is =
    hold_all (volume_of g) [] 24 (spared_list g) (chunk_starts g (length ns)) ns contents (kept_runs (filled_wanted g ns contents)) is.filled.placed.runs
    (λ k d low. sound_at g (chunk_starts g (length ns)) ns _ (populated_at g sector s ns contents plan blocks image is) is.files) is.filled.stands.runs'

pub slots_held : (g : Geometry) (sector : List ℕ) (s : Stamp) (ns : List ProtoNode) (contents : List (List ℕ)) (plan : Plan) (blocks : ℕ) (image : Image)
    → (is : IsPopulated g sector s ns contents plan blocks image)
    → ((k : ℕ) → k < length ns → HasTarget g s (chunk_starts g (length ns)) ns contents is.filled.placed.runs image k)
    → ReadAsDue (volume_of g) s (chunk_starts g (length ns)) ns contents is.filled.placed.runs image
slots_held g sector s ns contents plan blocks image is targets =
    let placed = populated_at g sector s ns contents plan blocks image is in
    let are = populated_runs g sector s ns contents plan blocks image is in
    slots_read g sector s ns contents plan blocks image is (λ k low.
    has_blocks g s (chunk_starts g (length ns)) ns contents is.filled.placed.runs image k
    (file_extents g (chunk_starts g (length ns)) ns contents (kept_runs (filled_wanted g ns contents)) is.filled.placed.runs is.filled.placed.cuts k placed is.files low is.filled.served is.filled.stands.apart are)
    (content_small g (chunk_starts g (length ns)) ns contents (kept_runs (filled_wanted g ns contents)) is.filled.placed.runs is.filled.placed.cuts k placed is.files low is.filled.served is.filled.stands.apart are)
    (targets k low))
