-- A block whose first slot reads is sealed as no other object.
use Rattle.std.proofs.Common.{◌≡◌, ◌⊎◌, ℕ, zero, suc, true, false, not, ◌+◌, ◌*◌, ◌/◌, ◌%◌, ◌^◌, ◌≤◌, ◌<◌, inl, inr, ◌==◌, List, [], ◌∷◌, take, drop, slice_index, refl, sym, ◌∙◌, ap, arith, Some, slice_get}
use Rattle.std.specs.List.{list_any}
use Rattle.std.proofs.lemmas.Bool.{and_left, and_parts, and_right, cases_Bool, eq-eqb, eqb-true, ne_eqb, not_from_true, or_from}
use Rattle.std.proofs.lemmas.List.{get_or-drop, get_or-take}
use Rattle.std.proofs.lemmas.Nat.{div-mul-add, mod-mul-add}
use Rattle.xfs_disk.specs.Blocks.{Image, IsImage, bytes_of_block}
use Rattle.xfs_word.specs.Field.{field_of, part_of}
use Rattle.xfs_word.specs.Seal.{begins_as_slot, has_magic, is_ready, is_sealed}
use Rattle.xfs_word.specs.declared.kinds.SealKind.{SealKind}
use Rattle.xfs_word.specs.declared.kinds.SealKind.TheVariants as Kind
use Rattle.xfs_word.proofs.Written.{big_from-same}
use Rattle.xfs_geom.specs.Conversions.{address_of, inode_of, slot_at, with_slot}
use Rattle.xfs_geom.specs.Volumes.{Volume, volume_of}
use Rattle.xfs_geom.specs.declared.geometry.Geometry.{Geometry}
use Rattle.xfs_geom.proofs.Addresses.{block_back}
use Rattle.xfs_inode.specs.Files.{file_read}
use Rattle.xfs_inode.specs.Slots.{slot_read, slot_seal}
use Rattle.xfs_inode.specs.declared.files.FileRead.{FileRead}
use Rattle.xfs_inode.specs.declared.files.FileRead.TheVariants as Reads
use Rattle.xfs_image.specs.Candidates.{has_whole_seal}
use Rattle.xfs_image.proofs.Objects.{no_object}
use Rattle.xfs_log.specs.Sectors.{sector_in}
use Rattle.xfs_image.specs.Slots.{bytes_in, reads_as, slot_bytes}

-- a slot that reads is sealed
unsealed_slot : (v : Volume) (image : Image) (ino : ℕ) → is_sealed (slot_seal v ino) (slot_bytes v image ino) ≡ false → reads_as v image ino ≡ Reads.Unsound
unfolding reads_as file_read slot_read
unsealed_slot v image ino e = rw e refl

sealed_slot : (v : Volume) (image : Image) (ino : ℕ) (read : FileRead) → reads_as v image ino ≡ read → (read ≡ Reads.Unsound → ⊥) → is_sealed (slot_seal v ino) (slot_bytes v image ino) ≡ true
sealed_slot v image ino read reads sound =
    elim (cases_Bool (is_sealed (slot_seal v ino) (slot_bytes v image ino))) [
      | inl yes' ↦ yes'
      | inr no' ↦ absurd (sound (sym reads ∙ unsealed_slot v image ino no'))
    ]

slot_magic : (v : Volume) (ino : ℕ) (bytes : List ℕ) → is_sealed (slot_seal v ino) bytes ≡ true → field_of bytes 0 2 ≡ 0x494e
unfolding is_sealed is_ready has_magic
slot_magic v ino bytes sealed =
    let a = and_parts _ _ sealed in
    let b = and_parts _ _ a.0 in
    let c = and_parts _ _ b.0 in
    let d = and_parts _ _ c.0 in
    let e = and_parts _ _ d.0 in
    let f = and_parts (field_of bytes 0 2 == 0x494e) (field_of bytes 4 1 == 3) e.0 in
    eqb-true (field_of bytes 0 2) 0x494e f.0

-- the first slot of a block
number_in_part : (bytes : List ℕ) (at n a w : ℕ) → a + w ≤ n → field_of (part_of bytes at n) a w ≡ field_of bytes (at + a) w
unfolding field_of part_of
number_in_part bytes at n a w inside =
    big_from-same 0 w (drop (at + a) bytes) (drop a (take n (drop at bytes))) (record {
      agree = λ k first last.
          let low : a + k < n = omega (arith, inside, last) in
          let place : at + (a + k) ≡ at + a + k = omega arith in
          get_or-drop a (take n (drop at bytes)) k 0
          ∙ get_or-take n (drop at bytes) (a + k) 0 low
          ∙ get_or-drop at bytes (a + k) 0
          ∙ ap (slice_index bytes) place
          ∙ sym (get_or-drop (at + a) bytes k 0);
    })

first_slot : (g : Geometry) (b : ℕ) → b < g.dblocks → slot_at (volume_of g) (inode_of (volume_of g) b 0) ≡ Some (b, 0)
unfolding slot_at inode_of
first_slot g b inside =
    let v : Volume = volume_of g in
    let a : ℕ = address_of v b in
    let slot : (a * 8 + 0) % 8 ≡ 0 = mod-mul-add a 8 0 (omega arith) in
    let block : (a * 8 + 0) / 8 ≡ a = div-mul-add a 8 0 (omega arith) in
    rw (slot, block) (ap (with_slot 0) (block_back v b g.shape.groups.large g.shape.groups.covered g.shape.addresses.enough inside))

begins : (g : Geometry) (image : Image) (b : ℕ) (read : FileRead) → b < g.dblocks → reads_as (volume_of g) image (inode_of (volume_of g) b 0) ≡ read → (read ≡ Reads.Unsound → ⊥)
    → field_of (bytes_of_block image b) 0 2 ≡ 0x494e
begins g image b read inside reads sound =
    let v : Volume = volume_of g in
    let ino : ℕ = inode_of v b 0 in
    let bytes : slot_bytes v image ino ≡ sector_in image b 0 = ap (bytes_in image) (first_slot g b inside) in
    let magic = slot_magic v ino (slot_bytes v image ino) (sealed_slot v image ino read reads sound) in
    sym (number_in_part (bytes_of_block image b) 0 512 0 2 (omega arith)) ∙ ap (λ (xs : List ℕ). field_of xs 0 2) (sym bytes) ∙ magic

-- the bytes of an image are below 256
bytes_low : (blocks : ℕ) (image : Image) (b i : ℕ) → IsImage blocks image → slice_index (bytes_of_block image b) i < 256
bytes_low blocks image b i is = in_block image b (λ block there. (is.each b block there).bytes i)
  where
    in_block : (image : Image) (b : ℕ) → ((block : List ℕ) → slice_get image b ≡ Some block → slice_index block i < 256) → slice_index (bytes_of_block image b) i < 256
    in_block [] b each = omega arith
    in_block (x ∷ xs) zero each = each x refl
    in_block (x ∷ xs) (suc b) each = in_block xs b each

four_bytes : (bytes : List ℕ) → field_of bytes 0 4 ≡ field_of bytes 0 2 * 2 ^ 16 + (slice_index bytes 2 * 256 + slice_index bytes 3)
unfolding field_of
four_bytes bytes = omega arith

pub no_whole_block : (g : Geometry) (blocks : ℕ) (image : Image) (b : ℕ) (read : FileRead) → IsImage blocks image → b < g.dblocks
    → reads_as (volume_of g) image (inode_of (volume_of g) b 0) ≡ read → (read ≡ Reads.Unsound → ⊥) → has_whole_seal (volume_of g) image b ≡ false
no_whole_block g blocks image b read is inside reads sound =
    let bytes : List ℕ = bytes_of_block image b in
    let two = begins g image b read inside reads sound in
    let four = four_bytes bytes in
    let third = bytes_low blocks image b 2 is in
    let last = bytes_low blocks image b 3 is in
    no_object (volume_of g) image b (record { low = omega (arith, two, four); high = omega (arith, two, four, third, last) })
