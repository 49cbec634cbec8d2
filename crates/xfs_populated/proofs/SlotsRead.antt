-- All slots read as they are due, where the extents of files and the blocks of targets are as they should be.
use Rattle.std.proofs.Common.{◌≡◌, ℕ, Bool, true, false, ◌+◌, ◌*◌, ◌^◌, ◌&&◌, ◌≤◌, ◌<◌, cond, nat_le, List, ◌∷◌, length, get_or, take, Option, Some, None, refl, ap, arith}
use Rattle.std.proofs.lemmas.Bool.{and_parts, leb-true}
use Rattle.std.proofs.lemmas.List.{length-take}
use Rattle.xfs_word.specs.declared.extents.Extent.{Extent}
use Rattle.xfs_disk.specs.Blocks.{Image}
use Rattle.xfs_disk.specs.declared.stamp.Stamp.{Stamp}
use Rattle.xfs_dirbuild.specs.Forms.{fits_leaf, fits_single, form_of}
use Rattle.xfs_dirbuild.specs.declared.forms.DirectoryForm.TheVariants.{Short, Single, Leaf, Node}
use Rattle.xfs_dirdata.specs.Written.{short_length}
use Rattle.xfs_dirdata.specs.declared.records.EntryRec.{EntryRec}
use Rattle.xfs_geom.specs.Volumes.{Volume, volume_of}
use Rattle.xfs_geom.specs.declared.geometry.Geometry.{Geometry}
use Rattle.xfs_geom.specs.declared.records.Run.{Run}
use Rattle.xfs_inode.specs.Files.{has_link_target, target_in}
use Rattle.xfs_place.specs.Chunks.{asked_pool, asked_rooms}
use Rattle.xfs_render.specs.declared.plan.Plan.{Plan}
use Rattle.xfs_image.specs.Slots.{slot_bytes}
use Rattle.xfs_proto.specs.declared.protofile.ProtoKind.{ProtoKind}
use Rattle.xfs_proto.specs.declared.protofile.ProtoKind.TheVariants as Kind
use Rattle.xfs_proto.specs.declared.protofile.ProtoNode.{ProtoNode}
use Rattle.xfs_filled.specs.Chunks.{chunk_starts, further_ask}
use Rattle.xfs_filled.specs.Directories.{made_directory_at, made_directory, short_in}
use Rattle.xfs_filled.specs.Entries.{entries_at, parent_of_place}
use Rattle.xfs_filled.specs.FileTrees.{AreProtoNodes, is_directory_node, is_directory_kind, node_at}
use Rattle.xfs_filled.specs.Forks.{extent_fork, extents_of_owner}
use Rattle.xfs_filled.specs.Numbers.{chunk_count, further_chunks, number_of}
use Rattle.xfs_filled.specs.Objects.{content_at}
use Rattle.xfs_filled.specs.Planning.{further_rooms}
use Rattle.xfs_filled.specs.Sites.{AreChunksPlaced}
use Rattle.xfs_filled.specs.declared.directories.MadeDirectory.{MadeDirectory}
use Rattle.xfs_filled.proofs.Asked.{rooms_few}
use Rattle.xfs_filled.proofs.Entering.{entries_few, entries_writable}
use Rattle.xfs_filled.proofs.Numbering.{index_low}
use Rattle.xfs_filled.proofs.Shorts.{short_long}
use Rattle.xfs_filled.proofs.Sited.{placed_at}
use Rattle.xfs_filled.proofs.Sized.{data_few}
use Rattle.xfs_populated.specs.FilledSlots.{ReadAsDue}
use Rattle.xfs_populated.specs.Populated.{IsPopulated}
use Rattle.xfs_populated.proofs.SlotFiles.{HasFork, HasForkAt, file_reads, leaf, link, tree}
use Rattle.xfs_populated.proofs.SlotKinds.{AreFileExtents, forked_core}
use Rattle.xfs_populated.proofs.SlotMade.{file_slot_is, free_at, system_at}
use Rattle.xfs_populated.proofs.SlotStanding.{slots_are_made}

-- there are as many chunks as the files need
starts_split : (g : Geometry) (files : ℕ) → chunk_starts g files ≡ 16 ∷ take (further_chunks files) (asked_rooms (further_ask g files))
unfolding chunk_starts
starts_split g files = refl

starts_enough : (g : Geometry) (files : ℕ) → chunk_count files ≤ further_rooms g files + 1 → length (chunk_starts g files) ≡ chunk_count files
starts_enough g files room =
    let all = ap length (starts_split g files) in
    let some = length-take (further_chunks files) (asked_rooms (further_ask g files)) in
    let most = rooms_few (volume_of g) (asked_pool (further_ask g files)) 24 g.shape.groups in
    omega (arith, all, some, most, room)

pub starts_first : (g : Geometry) (files : ℕ) → get_or (chunk_starts g files) 0 0 ≡ 16
starts_first g files = ap (λ (xs : List ℕ). get_or xs 0 0) (starts_split g files)

pub populated_at : (g : Geometry) (sector : List ℕ) (s : Stamp) (ns : List ProtoNode) (contents : List (List ℕ)) (plan : Plan) (blocks : ℕ) (image : Image)
    → IsPopulated g sector s ns contents plan blocks image → AreChunksPlaced g (chunk_starts g (length ns)) ns
populated_at g sector s ns contents plan blocks image is = placed_at g ns (chunk_starts g (length ns)) is.first refl (starts_enough g (length ns) is.room.chunks)

-- a short form fits the fork
short_fits : (parent : ℕ) (es : List EntryRec) → length (short_in (form_of es 336) parent es) ≤ 336
short_fits parent es = by_short (nat_le (6 + short_length es) 336 && fits_single es) refl
  where
    by_leaf : (r : Bool) → length (short_in (cond r Leaf Node) parent es) ≤ 336
    by_leaf true = omega arith
    by_leaf false = omega arith

    by_single : (r : Bool) → length (short_in (cond r Single (cond (fits_leaf es) Leaf Node)) parent es) ≤ 336
    by_single true = omega arith
    by_single false = by_leaf (fits_leaf es)

    by_short : (r : Bool) → (nat_le (6 + short_length es) 336 && fits_single es) ≡ r → length (short_in (cond r Short (cond (fits_single es) Single (cond (fits_leaf es) Leaf Node))) parent es) ≤ 336
    by_short true is =
        let few = leb-true (6 + short_length es) 336 (and_parts (nat_le (6 + short_length es) 336) (fits_single es) is).0 in
        let long = short_long parent es in
        omega (arith, few, long)
    by_short false is = by_single (fits_single es)

module _ (g : Geometry) (s : Stamp) (starts : List ℕ) (ns : List ProtoNode) (contents : List (List ℕ)) (runs : List Run) (image : Image) (k : ℕ) where
  abbrev v : Volume
  v = volume_of g

  abbrev slot : List ℕ
  slot = slot_bytes v image (number_of v starts k)

  abbrev es : List Extent
  es = extents_of_owner v (number_of v starts k) runs

  -- what is asked of the blocks of the file at a place, by its kind
  abbrev pub HasBlocksOf : ProtoKind → Type 0
  HasBlocksOf (Kind.Regular name line) = AreFileExtents v es × (length (content_at contents k) < 2 ^ 63)
  HasBlocksOf Kind.Directory = AreFileExtents v es
  HasBlocksOf (Kind.Link target) =
      nat_le (length target) 336 ≡ false
      → AreFileExtents v es
      × (has_link_target v (number_of v starts k)
      (forked_core v s starts ns k slot (tree v s starts ns contents runs image k) (link v s starts ns contents runs image k) (extent_fork (length target) es)) slot (link v s starts ns contents runs image k) ≡ true)
      × (target_in (forked_core v s starts ns k slot (tree v s starts ns contents runs image k) (link v s starts ns contents runs image k) (extent_fork (length target) es)) (link v s starts ns contents runs image k) ≡ target)
  HasBlocksOf (Kind.Block major minor) = Unit {0}
  HasBlocksOf (Kind.Character major minor) = Unit {0}
  HasBlocksOf Kind.Pipe = Unit {0}

  abbrev pub HasBlocks : Type 0
  HasBlocks = HasBlocksOf (node_at ns k).kind

  abbrev HasFork' : ProtoKind → Option MadeDirectory → Type 0
  HasFork' kind made = HasFork v s starts ns k slot (tree v s starts ns contents runs image k) (leaf v s starts ns contents runs image k) (link v s starts ns contents runs image k) es kind made (content_at contents k)

  module _ (placed : AreChunksPlaced g starts ns) (files : AreProtoNodes ns) where
    abbrev here : MadeDirectory
    here = made_directory (entries_at v starts ns k) (number_of v starts k) (parent_of_place v starts ns k)

    directory_fork : (t : Bool) → t ≡ true → AreFileExtents v es → HasFork' Kind.Directory (cond t (Some here) None)
    directory_fork true is extents = (
      short_fits (parent_of_place v starts ns k) (entries_at v starts ns k),
      data_few (form_of (entries_at v starts ns k) 336) (entries_at v starts ns k) (entries_writable g starts ns k placed files) (entries_few v starts ns k files),
      λ in_blocks. extents,
    )
    directory_fork false is extents = cc

    fork_of : (kind : ProtoKind) → (node_at ns k).kind ≡ kind → HasBlocksOf kind → HasFork' kind (made_directory_at v starts ns k)
    fork_of (Kind.Regular name line) is has = has
    fork_of Kind.Directory is has = directory_fork (is_directory_node ns k) (ap is_directory_kind is) has
    fork_of (Kind.Link target) is has = has
    fork_of (Kind.Block major minor) is has = tt
    fork_of (Kind.Character major minor) is has = tt
    fork_of Kind.Pipe is has = tt

    pub has_fork : HasBlocks → HasForkAt v s starts ns contents runs image k
    has_fork has = fork_of (node_at ns k).kind refl has

-- all slots read as they are due
pub slots_read : (g : Geometry) (sector : List ℕ) (s : Stamp) (ns : List ProtoNode) (contents : List (List ℕ)) (plan : Plan) (blocks : ℕ) (image : Image)
    → (is : IsPopulated g sector s ns contents plan blocks image)
    → ((k : ℕ) → k < length ns → HasBlocks g s (chunk_starts g (length ns)) ns contents is.filled.placed.runs image k)
    → ReadAsDue (volume_of g) s (chunk_starts g (length ns)) ns contents is.filled.placed.runs image
slots_read g sector s ns contents plan blocks image is has =
    let v = volume_of g in
    let starts = chunk_starts g (length ns) in
    let runs = is.filled.placed.runs in
    let placed = populated_at g sector s ns contents plan blocks image is in
    let made = slots_are_made g sector s ns contents plan blocks image is in
    let enough = placed.enough in
    let some = is.files.some in
    record {
      files' = λ k low.
          file_reads (volume_of g) s (chunk_starts g (length ns)) ns contents is.filled.placed.runs image k (is.files.types k low) (is.files.contents k low)
          (has_fork g s (chunk_starts g (length ns)) ns contents is.filled.placed.runs image k placed is.files (has k low))
          (file_slot_is (volume_of g) s (chunk_starts g (length ns)) ns contents is.filled.placed.runs image made k low (index_low k (64 * length (chunk_starts g (length ns))) (omega (arith, enough, low))));
      system = λ j low high. system_at (volume_of g) s (chunk_starts g (length ns)) ns contents is.filled.placed.runs image made j low high (omega (arith, enough, high, some));
      free = λ j behind low. free_at (volume_of g) s (chunk_starts g (length ns)) ns contents is.filled.placed.runs image made j some behind low;
    }
