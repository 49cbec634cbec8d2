-- The slots of the first chunk read as the root, two system inodes and free ones; the root is a whole directory without entries.
use Rattle.std.proofs.Common.{◌≡◌, ℕ, zero, suc, ◌+◌, ◌≤◌, ◌<◌, List, [], ◌∷◌, ◌++◌, is_some, Option, Some, Ok, refl, ap, ◌∙◌, arith}
use Rattle.std.specs.List.{range_with_len}
use Rattle.xfs_disk.specs.Blocks.{Image}
use Rattle.xfs_disk.specs.declared.stamp.Stamp.{Stamp}
use Rattle.xfs_word.specs.Field.{part_of}
use Rattle.xfs_dirdata.specs.Short.{ShortForm, short_of}
use Rattle.xfs_geom.specs.Volumes.{Volume}
use Rattle.xfs_inode.specs.Files.{ranges_apart, by_slot, file_read}
use Rattle.xfs_inode.specs.Slots.{slot_read}
use Rattle.xfs_inode.specs.declared.files.FileRead.TheVariants as Reads
use Rattle.xfs_inode.specs.declared.reading.SlotRead.{SlotRead}
use Rattle.xfs_inode.specs.declared.reading.SlotRead.TheVariants as Read
use Rattle.xfs_tree.specs.Reading.{Contents}
use Rattle.xfs_word.specs.declared.extents.Extent.{Extent}
use Rattle.xfs_volume.specs.declared.directories.DirRec.{DirRec}
use Rattle.xfs_volume.specs.declared.files.FileRec.{FileRec}
use Rattle.xfs_volume.specs.declared.groups.GroupRec.{GroupRec}
use Rattle.xfs_image.specs.Directories.{directories, dirs_read, entries_of, entries_of_form, entries_read, is_whole, parent_of, parent_of_form, short_form}
use Rattle.xfs_image.specs.Files.{files_at, files_read, inodes_of}
use Rattle.xfs_image.specs.Slots.{reads_as, slot_bytes}
use Rattle.xfs_empty.specs.Inodes.{root_core, system_core}
use Rattle.xfs_made.specs.Files.{HasFirstSlots, first_dirs, first_files, plain_file, slot_crc}
use Rattle.xfs_made.proofs.FirstSlots.{empty_form, free_slot_is, root_slot_is, slot_of, system_slot_is}

-- what a slot reads as by itself decides what it reads as with the blocks that it names
free_reads : (v : Volume) (ino : ℕ) (slot : List ℕ) (tree : Option (Contents Extent)) (attr_leaf link : Option (List ℕ)) → slot_read v ino slot ≡ Read.Free
    → file_read v ino slot tree attr_leaf link ≡ Reads.Free
unfolding file_read
free_reads v ino slot tree attr_leaf link free = ap (λ (r : SlotRead). by_slot v ino r slot tree attr_leaf link) free

system_reads : (v : Volume) (s : Stamp) (ino crc : ℕ) (slot : List ℕ) (tree : Option (Contents Extent)) (attr_leaf link : Option (List ℕ))
    → slot_read v ino slot ≡ Read.InUse (record (system_core v s ino) { crc = crc })
    → file_read v ino slot tree attr_leaf link ≡ Reads.File (plain_file (system_core v s ino) crc)
unfolding file_read ranges_apart
system_reads v s ino crc slot tree attr_leaf link used = ap (λ (r : SlotRead). by_slot v ino r slot tree attr_leaf link) used

root_reads : (v : Volume) (s : Stamp) (crc : ℕ) (slot : List ℕ) (tree : Option (Contents Extent)) (attr_leaf link : Option (List ℕ))
    → slot_read v 128 slot ≡ Read.InUse (record (root_core v s) { crc = crc })
    → file_read v 128 slot tree attr_leaf link ≡ Reads.File (plain_file (root_core v s) crc)
unfolding file_read ranges_apart
root_reads v s crc slot tree attr_leaf link used = ap (λ (r : SlotRead). by_slot v 128 r slot tree attr_leaf link) used

module _ (v : Volume) (s : Stamp) (image : Image) (slots : HasFirstSlots v s image) where
  free_at : (ino : ℕ) → 131 ≤ ino → ino < 192 → reads_as v image ino ≡ Reads.Free
  unfolding reads_as
  free_at ino low high =
      free_reads v ino (slot_bytes v image ino) _ _ _ (free_slot_is v s image ino low (slot_of v s image ino (omega (arith, low)) high slots)).read

  system_at : (ino : ℕ) → 129 ≤ ino → ino < 131 → reads_as v image ino ≡ Reads.File (plain_file (system_core v s ino) (slot_crc v image ino))
  unfolding reads_as
  system_at ino low high =
      system_reads v s ino (slot_crc v image ino) (slot_bytes v image ino) _ _ _
      (system_slot_is v s image ino low high (slot_of v s image ino (omega (arith, low)) (omega (arith, high)) slots)).read

  root_at : reads_as v image 128 ≡ Reads.File (plain_file (root_core v s) (slot_crc v image 128))
  unfolding reads_as
  root_at =
      root_reads v s (slot_crc v image 128) (slot_bytes v image 128) _ _ _
      (root_slot_is v s image 128 refl (slot_of v s image 128 (omega arith) (omega arith) slots)).read

  all_free : (a n : ℕ) → 131 ≤ a → a + n ≤ 192 → files_at v image (range_with_len a n) ≡ Ok []
  all_free a zero low high = refl
  all_free a (suc n) low high =
      let here : reads_as v image a ≡ Reads.Free = free_at a low (omega (arith, high)) in
      rw here (all_free (a + 1) n (omega (arith, low)) (omega (arith, high)))

-- three files, and nothing behind them
three_files : (v : Volume) (image : Image) (a b c : ℕ) (inos : List ℕ) (x y z : FileRec) → reads_as v image a ≡ Reads.File x
    → reads_as v image b ≡ Reads.File y → reads_as v image c ≡ Reads.File z → files_at v image inos ≡ Ok []
    → files_at v image (a ∷ b ∷ c ∷ inos) ≡ Ok (x ∷ y ∷ z ∷ [])
three_files v image a b c inos x y z first second third none = rw (first, second, third, none) refl

pub files_are : (v : Volume) (s : Stamp) (image : Image) (groups : List GroupRec) → HasFirstSlots v s image
    → inodes_of v groups ≡ range_with_len 128 64 → files_read v image groups ≡ Ok (first_files v s (slot_crc v image))
unfolding files_read
files_are v s image groups slots inodes =
    ap (files_at v image) inodes
    ∙ three_files v image 128 129 130 (range_with_len 131 61) (plain_file (root_core v s) (slot_crc v image 128))
    (plain_file (system_core v s 129) (slot_crc v image 129)) (plain_file (system_core v s 130) (slot_crc v image 130))
    (root_at v s image slots) (system_at v s image slots 129 (omega arith) (omega arith)) (system_at v s image slots 130 (omega arith) (omega arith))
    (all_free v s image slots 131 61 (omega arith) (omega arith))

form_at : (v : Volume) (s : Stamp) (image : Image) → HasFirstSlots v s image → short_of 128 (part_of (slot_bytes v image 128) 176 6) ≡ Some empty_form
form_at v s image slots = (root_slot_is v s image 128 refl (slot_of v s image 128 (omega arith) (omega arith) slots)).form

pub no_entries : (v : Volume) (s : Stamp) (image : Image) (crc : ℕ → ℕ) → HasFirstSlots v s image → entries_read v image (first_files v s crc) ≡ []
unfolding entries_read directories entries_of short_form
no_entries v s image crc slots = ap (λ (form : Option ShortForm). entries_of_form form ++ []) (form_at v s image slots)

abbrev dir_by : Option ShortForm → List DirRec
dir_by form = record { ino = 128; parent = parent_of_form form; whole = is_some form } ∷ []

pub root_whole : (v : Volume) (s : Stamp) (image : Image) (crc : ℕ → ℕ) → HasFirstSlots v s image → dirs_read v image (first_files v s crc) ≡ first_dirs
unfolding dirs_read directories parent_of is_whole short_form
root_whole v s image crc slots = ap dir_by (form_at v s image slots)
