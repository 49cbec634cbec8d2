-- The slot of each file reads as it is due, where its extents and the block of its target are as they should be.
use Rattle.std.proofs.Common.{◌≡◌, ℕ, Bool, true, false, ◌+◌, ◌*◌, ◌/◌, ◌^◌, ◌≤◌, ◌<◌, ◌==◌, nat_le, List, [], length, Option, Some, None, refl, ap, ◌∙◌, arith}
use Rattle.std.specs.Prelude.{if◌then◌else◌, option_map}
use Rattle.std.proofs.lemmas.Bool.{leb-true}
use Rattle.xfs_word.specs.Field.{part_of}
use Rattle.xfs_word.specs.declared.extents.Extent.{Extent}
use Rattle.xfs_disk.specs.Blocks.{Image, bytes_of_block}
use Rattle.xfs_disk.specs.declared.stamp.Stamp.{Stamp}
use Rattle.xfs_geom.specs.Volumes.{Volume}
use Rattle.xfs_geom.specs.declared.records.Run.{Run}
use Rattle.xfs_tree.specs.Reading.{Contents}
use Rattle.xfs_inode.specs.Files.{by_slot, file_read, has_link_target, target_in, used_file}
use Rattle.xfs_inode.specs.Named.{named_attr, named_link, named_top, tree_under}
use Rattle.xfs_inode.specs.declared.files.FileRead.TheVariants as Reads
use Rattle.xfs_inode.specs.declared.reading.SlotRead.{SlotRead}
use Rattle.xfs_inodebuild.specs.declared.forks.ForkWanted.{ForkWanted}
use Rattle.xfs_image.specs.Slots.{reads_as, slot_bytes}
use Rattle.xfs_made.specs.Files.{slot_crc}
use Rattle.xfs_proto.specs.declared.protofile.ProtoKind.{ProtoKind}
use Rattle.xfs_proto.specs.declared.protofile.ProtoKind.TheVariants as Kind
use Rattle.xfs_proto.specs.declared.protofile.ProtoNode.{ProtoNode}
use Rattle.xfs_filled.specs.Directories.{made_directory_at}
use Rattle.xfs_filled.specs.FileTrees.{CanHold, node_at, type_of_kind}
use Rattle.xfs_filled.specs.Forks.{extent_fork, extents_of_owner, fork_of_kind, local_fork}
use Rattle.xfs_filled.specs.Numbers.{number_of}
use Rattle.xfs_filled.specs.Objects.{content_at}
use Rattle.xfs_filled.specs.Slots.{core_at}
use Rattle.xfs_filled.specs.declared.directories.MadeDirectory.{MadeDirectory}
use Rattle.xfs_populated.specs.Populated.{device_of_kind, filled_file, filled_fork, target_of_kind}
use Rattle.xfs_populated.proofs.SlotUsed.{bare_file, bare_reads}
use Rattle.xfs_populated.proofs.SlotMade.{IsForkedSlot}
use Rattle.xfs_populated.proofs.SlotKinds.{AreFileExtents, block_file, character_file, directory_file, forked_core, long_link, pipe_file, regular_file, short_directory, short_link}

module _ (v : Volume) (s : Stamp) (starts : List ℕ) (ns : List ProtoNode) (k : ℕ) (slot : List ℕ) (tree : Option (Contents Extent)) (leaf link : Option (List ℕ)) (es : List Extent) where
  -- what is asked of the fork of a file: its extents are as they should be, where it has some, and so is the block of its target
  abbrev pub HasFork : ProtoKind → Option MadeDirectory → List ℕ → Type 0
  HasFork (Kind.Regular name line) made content = AreFileExtents v es × (length content < 2 ^ 63)
  HasFork Kind.Directory None content = ⊥
  HasFork Kind.Directory (Some d) content = (length d.short ≤ 336) × (d.data_blocks ≤ 2097151) × ((d.data_blocks == 0) ≡ false → AreFileExtents v es)
  HasFork (Kind.Link target) made content =
      nat_le (length target) 336 ≡ false
      → AreFileExtents v es × (has_link_target v (number_of v starts k) (forked_core v s starts ns k slot tree link (extent_fork (length target) es)) slot link ≡ true)
      × (target_in (forked_core v s starts ns k slot tree link (extent_fork (length target) es)) link ≡ target)
  HasFork (Kind.Block major minor) made content = Unit {0}
  HasFork (Kind.Character major minor) made content = Unit {0}
  HasFork Kind.Pipe made content = Unit {0}

  abbrev Reads' : ForkWanted → List ℕ → ℕ → Type 0
  Reads' fork target device =
      used_file v (number_of v starts k) (forked_core v s starts ns k slot tree link fork) slot tree leaf link
      ≡ Reads.File (bare_file (number_of v starts k) (forked_core v s starts ns k slot tree link fork) (if fork.format == 2 then es else []) target device)

  abbrev Put : ForkWanted → Type 0
  Put fork = part_of slot 176 (length fork.bytes) ≡ fork.bytes

  kind_reads : (kind : ProtoKind) (made : Option MadeDirectory) (content : List ℕ) → (node_at ns k).mode / 4096 ≡ type_of_kind kind → CanHold kind → HasFork kind made content
      → Put (fork_of_kind kind made content es) → Reads' (fork_of_kind kind made content es) (target_of_kind kind) (device_of_kind kind)
  kind_reads (Kind.Regular name line) made content type can has put =
      bare_reads v (number_of v starts k) (forked_core v s starts ns k slot tree link (extent_fork (length content) es)) slot tree leaf link es [] 0
      (regular_file v s starts ns k slot tree link (length content) es has.1 has.0 put type)
  kind_reads Kind.Directory None content type can has put = absurd has
  kind_reads Kind.Directory (Some d) content type can has put = by_case (d.data_blocks == 0) refl put
    where
      by_case : (t : Bool) → (d.data_blocks == 0) ≡ t → Put (if t then local_fork d.short else extent_fork (4096 * d.data_blocks) es)
          → Reads' (if t then local_fork d.short else extent_fork (4096 * d.data_blocks) es) [] 0
      by_case true is here =
          bare_reads v (number_of v starts k) (forked_core v s starts ns k slot tree link (local_fork d.short)) slot tree leaf link [] [] 0
          (short_directory v s starts ns k slot tree link d.short has.0 here type)
      by_case false is here =
          let few = has.1 in
          bare_reads v (number_of v starts k) (forked_core v s starts ns k slot tree link (extent_fork (4096 * d.data_blocks) es)) slot tree leaf link es [] 0
          (directory_file v s starts ns k slot tree link (4096 * d.data_blocks) es (omega (arith, few)) (has.2 is) here type)
  kind_reads (Kind.Link target) made content type can has put = by_case (nat_le (length target) 336) refl put
    where
      by_case : (t : Bool) → nat_le (length target) 336 ≡ t → Put (if t then local_fork target else extent_fork (length target) es)
          → Reads' (if t then local_fork target else extent_fork (length target) es) target 0
      by_case true is here =
          bare_reads v (number_of v starts k) (forked_core v s starts ns k slot tree link (local_fork target)) slot tree leaf link [] target 0
          (short_link v s starts ns k slot tree link target (leb-true (length target) 336 is) here type can.0)
      by_case false is here =
          let most = can.1 in
          let held = has is in
          bare_reads v (number_of v starts k) (forked_core v s starts ns k slot tree link (extent_fork (length target) es)) slot tree leaf link es target 0
          (long_link v s starts ns k slot tree link (length target) es (omega (arith, most)) held.0 here target type held.1 held.2)
  kind_reads (Kind.Block major minor) made content type can has put =
      bare_reads v (number_of v starts k) (forked_core v s starts ns k slot tree link (fork_of_kind (Kind.Block major minor) made content es)) slot tree leaf link [] [] (major * 2 ^ 18 + minor)
      (block_file v s starts ns k slot tree link major minor can.0 can.1 put type)
  kind_reads (Kind.Character major minor) made content type can has put =
      bare_reads v (number_of v starts k) (forked_core v s starts ns k slot tree link (fork_of_kind (Kind.Character major minor) made content es)) slot tree leaf link [] [] (major * 2 ^ 18 + minor)
      (character_file v s starts ns k slot tree link major minor can.0 can.1 put type)
  kind_reads Kind.Pipe made content type can has put =
      bare_reads v (number_of v starts k) (forked_core v s starts ns k slot tree link (fork_of_kind Kind.Pipe made content es)) slot tree leaf link [] [] 0
      (pipe_file v s starts ns k slot tree link type)

module _ (v : Volume) (s : Stamp) (starts : List ℕ) (ns : List ProtoNode) (contents : List (List ℕ)) (runs : List Run) (image : Image) (k : ℕ) where
  abbrev ino : ℕ
  ino = number_of v starts k

  abbrev slot : List ℕ
  slot = slot_bytes v image ino

  -- what the slot names
  abbrev pub tree : Option (Contents Extent)
  tree = tree_under v image ino (named_top v ino slot)

  abbrev pub leaf : Option (List ℕ)
  leaf = option_map (bytes_of_block image) (named_attr v ino slot)

  abbrev pub link : Option (List ℕ)
  link = option_map (bytes_of_block image) (named_link v ino slot)

  abbrev es : List Extent
  es = extents_of_owner v ino runs

  -- what is asked of the fork of the file at the place
  abbrev pub HasForkAt : Type 0
  HasForkAt = HasFork v s starts ns k slot tree leaf link es (node_at ns k).kind (made_directory_at v starts ns k) (content_at contents k)

  pub file_reads : (node_at ns k).mode / 2 ^ 12 ≡ type_of_kind (node_at ns k).kind → CanHold (node_at ns k).kind → HasForkAt
      → IsForkedSlot v (core_at v s starts ns k) (filled_fork v s starts ns contents runs (slot_crc v image) k) slot
      → reads_as v image ino ≡ Reads.File (filled_file v s starts ns contents runs (slot_crc v image) k)
  unfolding reads_as file_read
  file_reads type can has made =
      ap (λ (r : SlotRead). by_slot v ino r slot tree leaf link) made.read
      ∙ kind_reads v s starts ns k slot tree leaf link es (node_at ns k).kind (made_directory_at v starts ns k) (content_at contents k) type can has made.put
