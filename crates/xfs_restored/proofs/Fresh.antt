-- The slots of a root and of system inodes that are made anew read as their files; a slot that was freed reads as free.
use Rattle.std.proofs.Common.{◌≡◌, ℕ, ◌^◌, ◌<◌, List, [], length, Option, Some, refl, sym, ap, ◌∙◌, subst}
use Rattle.byteorder.specs.Numbers.{big_number-reads_back}
use Rattle.xfs_disk.specs.Blocks.{Image}
use Rattle.xfs_disk.specs.declared.stamp.Stamp.{Stamp}
use Rattle.xfs_word.specs.Crc.{little_field_of}
use Rattle.xfs_word.specs.Field.{field_of, part_of}
use Rattle.xfs_word.specs.declared.extents.Extent.{Extent}
use Rattle.xfs_dirdata.specs.Bytes.{short_bytes}
use Rattle.xfs_dirdata.specs.Short.{ShortForm, short_entries, short_of}
use Rattle.xfs_geom.specs.Volumes.{Volume}
use Rattle.xfs_tree.specs.Reading.{Contents}
use Rattle.xfs_inode.specs.Cores.{stated_core}
use Rattle.xfs_inode.specs.Files.{by_slot, file_read, ranges_apart}
use Rattle.xfs_inode.specs.Named.{slot_reads}
use Rattle.xfs_inode.specs.Slots.{slot_read}
use Rattle.xfs_inode.specs.declared.files.FileRead.TheVariants as Reads
use Rattle.xfs_inode.specs.declared.reading.SlotRead.{SlotRead}
use Rattle.xfs_inode.specs.declared.reading.SlotRead.TheVariants as Read
use Rattle.xfs_render.specs.Slots.{IsFreeSlot, IsFreshSlot, IsMadeSlot, SetsFork}
use Rattle.xfs_volume.specs.declared.cores.Core.{Core}
use Rattle.xfs_volume.specs.declared.files.FileRec.{FileRec}
use Rattle.xfs_volume.specs.Rest.{no_rest}
use Rattle.xfs_rename.specs.xfs_request.Fresh.{new_root_core, new_root_fork, new_root_slot, new_system_core, new_system_slot}
use Rattle.xfs_rename.specs.xfs_request.Slots.{freed_slot}

-- a file with this core, sealed with a checksum, that has no blocks
abbrev pub empty_file : Core → ℕ → FileRec
empty_file core crc = record {
  ino = core.ino;
  core = record core { crc = crc };
  extents = [];
  rest = no_rest;
}

-- what a slot reads as by itself decides what it reads as with the blocks that it names
free_reads : (v : Volume) (ino : ℕ) (slot : List ℕ) (tree : Option (Contents Extent)) (attr_leaf link : Option (List ℕ)) → slot_read v ino slot ≡ Read.Free
    → file_read v ino slot tree attr_leaf link ≡ Reads.Free
unfolding file_read
free_reads v ino slot tree attr_leaf link free = ap (λ (r : SlotRead). by_slot v ino r slot tree attr_leaf link) free

system_reads : (v : Volume) (s : Stamp) (ino crc : ℕ) (slot : List ℕ) (tree : Option (Contents Extent)) (attr_leaf link : Option (List ℕ))
    → slot_read v ino slot ≡ Read.InUse (record (new_system_core v s ino) { crc = crc })
    → file_read v ino slot tree attr_leaf link ≡ Reads.File (empty_file (new_system_core v s ino) crc)
unfolding file_read ranges_apart
system_reads v s ino crc slot tree attr_leaf link used = ap (λ (r : SlotRead). by_slot v ino r slot tree attr_leaf link) used

root_reads : (v : Volume) (s : Stamp) (crc : ℕ) (slot : List ℕ) (tree : Option (Contents Extent)) (attr_leaf link : Option (List ℕ))
    → slot_read v v.rootino slot ≡ Read.InUse (record (new_root_core v s) { crc = crc })
    → file_read v v.rootino slot tree attr_leaf link ≡ Reads.File (empty_file (new_root_core v s) crc)
unfolding file_read ranges_apart
root_reads v s crc slot tree attr_leaf link used = ap (λ (r : SlotRead). by_slot v v.rootino r slot tree attr_leaf link) used

-- a freed slot
made_free : (v : Volume) (generation ino : ℕ) (old new : List ℕ) → IsMadeSlot v generation (freed_slot ino) old new → IsFreeSlot v ino generation new
made_free v generation ino old new made =
    let same : new ≡ made.based = made.links ∙ (made.fork ∙ made.attrs) in
    subst (λ (slot : List ℕ). IsFreeSlot v ino generation slot) (sym same) made.base

pub freed_reads : (v : Volume) (image : Image) (generation ino : ℕ) (old new : List ℕ) → IsMadeSlot v generation (freed_slot ino) old new → slot_reads v image ino new ≡ Reads.Free
freed_reads v image generation ino old new made = free_reads v ino new _ _ _ (made_free v generation ino old new made).read

pub freed_states : (v : Volume) (generation ino : ℕ) (old new : List ℕ) → IsMadeSlot v generation (freed_slot ino) old new → (stated_core new).lsn ≡ 0
freed_states v generation ino old new made = ap (λ (core : Core). core.lsn) (made_free v generation ino old new made).stated

-- the slot of a system inode
made_system : (v : Volume) (s : Stamp) (generation ino : ℕ) (old new : List ℕ) → IsMadeSlot v generation (new_system_slot v s ino) old new
    → IsFreshSlot v (new_system_core v s ino) new
made_system v s generation ino old new made =
    let same : new ≡ made.based = made.links ∙ (made.fork ∙ made.attrs) in
    subst (λ (slot : List ℕ). IsFreshSlot v (new_system_core v s ino) slot) (sym same) made.base

-- the short form of the root
abbrev pub empty_form : ℕ → ShortForm
empty_form root = record { parent = root; entries = [] }

root_short : (root : ℕ) → length (short_bytes root []) ≡ 6
unfolding short_bytes
root_short root = refl

root_form : (root : ℕ) → root < 2 ^ 32 → short_of root (short_bytes root []) ≡ Some (empty_form root)
unfolding short_of short_entries short_bytes field_of
root_form root low = ap (λ (n : ℕ). let form : ShortForm = record { parent = n; entries = [] } in Some form) (big_number-reads_back 4 root [] low)

-- the slot of the root
pub record IsRootMade (v : Volume) (s : Stamp) (slot : List ℕ) : Type 0 where
  pub read : slot_read v v.rootino slot ≡ Read.InUse (record (new_root_core v s) { crc = little_field_of slot 100 4 })
  pub stated : stated_core slot ≡ record (new_root_core v s) { crc = little_field_of slot 100 4 }
  pub form : short_of v.rootino (part_of slot 176 6) ≡ Some (empty_form v.rootino)

abbrev with_fork : Core → ℕ → Core
with_fork core crc = record core { format = 1; size = 6; nblocks = 0; nextents = 0; crc = crc }

root_set : (v : Volume) (s : Stamp) (old new : List ℕ) → v.rootino < 2 ^ 32 → IsFreshSlot v (new_root_core v s) old → SetsFork v v.rootino (new_root_fork v) old new → IsRootMade v s new
root_set v s old new low fresh sets =
    let crc : ℕ = little_field_of new 100 4 in
    let stated : stated_core new ≡ record (new_root_core v s) { crc = crc } = sets.stated ∙ ap (λ (core : Core). with_fork core crc) fresh.stated in
    record {
      read = sets.read (record (new_root_core v s) { crc = little_field_of old 100 4 }) fresh.read ∙ ap (λ (core : Core). Read.InUse core) stated;
      stated = stated;
      form = ap (λ (n : ℕ). short_of v.rootino (part_of new 176 n)) (sym (root_short v.rootino)) ∙ (ap (short_of v.rootino) sets.put ∙ root_form v.rootino low);
    }

pub made_root : (v : Volume) (s : Stamp) (generation : ℕ) (old new : List ℕ) → v.rootino < 2 ^ 32 → IsMadeSlot v generation (new_root_slot v s) old new → IsRootMade v s new
made_root v s generation old new low made =
    let fresh : IsFreshSlot v (new_root_core v s) made.bare = subst (λ (slot : List ℕ). IsFreshSlot v (new_root_core v s) slot) (sym made.attrs) made.base in
    let sets : SetsFork v v.rootino (new_root_fork v) made.bare new = subst (λ (slot : List ℕ). SetsFork v v.rootino (new_root_fork v) made.bare slot) (sym made.links) made.fork in
    root_set v s made.bare new low fresh sets

pub root_made_reads : (v : Volume) (s : Stamp) (image : Image) (slot : List ℕ) → IsRootMade v s slot
    → slot_reads v image v.rootino slot ≡ Reads.File (empty_file (new_root_core v s) (little_field_of slot 100 4))
root_made_reads v s image slot made = root_reads v s (little_field_of slot 100 4) slot _ _ _ made.read

pub system_made_reads : (v : Volume) (s : Stamp) (image : Image) (generation ino : ℕ) (old new : List ℕ) → IsMadeSlot v generation (new_system_slot v s ino) old new
    → slot_reads v image ino new ≡ Reads.File (empty_file (new_system_core v s ino) (little_field_of new 100 4))
system_made_reads v s image generation ino old new made =
    system_reads v s ino (little_field_of new 100 4) new _ _ _ (made_system v s generation ino old new made).read

pub system_states : (v : Volume) (s : Stamp) (generation ino : ℕ) (old new : List ℕ) → IsMadeSlot v generation (new_system_slot v s ino) old new → (stated_core new).lsn ≡ 0
system_states v s generation ino old new made = ap (λ (core : Core). core.lsn) (made_system v s generation ino old new made).stated
