-- The slots of a block outside the volume do not read.
use Rattle.std.proofs.Common.{◌≡◌, ℕ, Bool, true, false, ◌+◌, ◌-◌, ◌*◌, ◌/◌, ◌%◌, ◌^◌, ◌<◌, ◌≤◌, ◌==◌, ◌&&◌, nat_lt, if◌then◌else◌, List, [], ◌∷◌, map, Some, None, option_map, inl, inr, refl, ap, ap₂, ◌∙◌, arith}
use Rattle.std.proofs.Math.Nat.{mul-le-mul_right}
use Rattle.std.proofs.lemmas.Bool.{cases_lt}
use Rattle.std.proofs.lemmas.Bool.Decides.{nat_tests}
use Rattle.std.proofs.lemmas.Nat.{div-add-mod', div-mul-add, mod-mul-add}
use Rattle.xfs_word.specs.Field.{field_of}
use Rattle.xfs_word.specs.Seal.{has_magic, is_ready, is_sealed}
use Rattle.xfs_disk.specs.Blocks.{Image, bytes_of_block}
use Rattle.xfs_geom.specs.Conversions.{address_of, block_at, group_length, inode_of, slot_at, with_slot}
use Rattle.xfs_geom.specs.Groups.{block_of_address, blocks_of_group}
use Rattle.xfs_geom.specs.Shape.{HasAddresses, HasGroups}
use Rattle.xfs_geom.specs.Volumes.{Volume}
use Rattle.xfs_inode.specs.Slots.{slot_read, slot_seal}
use Rattle.xfs_inode.specs.Files.{by_slot, file_read}
use Rattle.xfs_inode.specs.Named.{slot_reads, tree_under, named_top, named_attr, named_link}
use Rattle.xfs_inode.specs.declared.files.FileRead.TheVariants as Reads
use Rattle.xfs_inode.specs.declared.reading.SlotRead.TheVariants as Read
use Rattle.std.specs.List.{range_with_len}
use Rattle.xfs_image.specs.Slots.{bytes_in, inodes_of_block, reads_as}
use Rattle.xfs_slots.specs.Gathered.{gathered, gathered_both, nothing_gathered, of_none, of_read}

abbrev AllBelow : List ℕ → Type 0
AllBelow [] = Unit {0}
AllBelow (slot ∷ slots) = (slot < 8) × AllBelow slots

-- no bytes are sealed as a slot
unsealed : (v : Volume) (ino : ℕ) → is_sealed (slot_seal v ino) [] ≡ false
unfolding is_sealed is_ready has_magic field_of
unsealed v ino = refl

unread : (v : Volume) (ino : ℕ) → slot_read v ino [] ≡ Read.Unsound
unfolding slot_read
unread v ino = rw (unsealed v ino) refl

-- no group has a block behind the volume
outside_groups : (d w n block : ℕ) → HasGroups d w n → d ≤ block → (nat_lt (block / w) n && nat_lt (block % w) (blocks_of_group d w n (block / w))) ≡ false
outside_groups d w n block shape outside = by_group (block / w + 1 == n) refl
  where
    whole : block / w * w + block % w ≡ block
    whole = div-add-mod' block w

    not_inside : (block / w + 1 == n) ≡ false → block / w < n → ⊥
    not_inside is inside =
        let before : block / w + 1 < n = grind (arith, nat_tests, is, inside) in
        let most : (block / w + 1) * w ≤ (n - 1) * w = mul-le-mul_right w (omega arith) in
        let next : (block / w + 1) * w ≡ block / w * w + w = omega arith in
        let some = shape.large in
        let rest : block % w < w = omega (arith, some) in
        let sum = whole in
        let last = shape.last in
        omega (arith, most, next, rest, sum, last, outside)

    by_group : (last : Bool) → (block / w + 1 == n) ≡ last → (nat_lt (block / w) n && nat_lt (block % w) (if last then d - block / w * w else w)) ≡ false
    by_group true is = let sum = whole in grind (arith, nat_tests, is, sum, outside)
    by_group false is = elim (cases_lt (block / w) n) [ inl inside ↦ absurd (not_inside is inside) | inr past ↦ grind (arith, nat_tests, past) ]

-- the block of an address that lies outside is not there
not_there : (v : Volume) (block : ℕ) → HasGroups v.dblocks v.agblocks v.agcount → HasAddresses v.agblocks v.agblklog → v.dblocks ≤ block → block_at v (address_of v block) ≡ None
unfolding block_at address_of
not_there v block shape addresses outside =
    let low = shape.large in
    let enough = addresses.enough in
    let power : 0 < 2 ^ v.agblklog = omega (arith, low, enough) in
    let rest : block % v.agblocks < v.agblocks = omega (arith, low) in
    let group = div-mul-add (block / v.agblocks) (2 ^ v.agblklog) (block % v.agblocks) (omega (arith, rest, enough)) in
    let inside = mod-mul-add (block / v.agblocks) (2 ^ v.agblklog) (block % v.agblocks) (omega (arith, rest, enough)) in
    let outside_all = outside_groups v.dblocks v.agblocks v.agcount block shape outside in
    ap (λ test. if test then Some (block_of_address v.agblocks v.agblklog (block / v.agblocks * 2 ^ v.agblklog + block % v.agblocks)) else None)
    (ap₂ (λ q r. nat_lt q v.agcount && nat_lt r (group_length v q)) group inside ∙ outside_all)

no_slot : (v : Volume) (block slot : ℕ) → HasGroups v.dblocks v.agblocks v.agcount → HasAddresses v.agblocks v.agblklog → v.dblocks ≤ block → slot < 8
    → slot_at v (inode_of v block slot) ≡ None
unfolding slot_at inode_of
no_slot v block slot shape addresses outside few =
    let whole : (address_of v block * 8 + slot) / 8 ≡ address_of v block = omega arith in
    ap (λ address. with_slot ((address_of v block * 8 + slot) % 8) (block_at v address)) whole
    ∙ ap (with_slot ((address_of v block * 8 + slot) % 8)) (not_there v block shape addresses outside)

no_file : (v : Volume) (image : Image) (ino : ℕ) → slot_at v ino ≡ None → reads_as v image ino ≡ Reads.Unsound
unfolding reads_as file_read
no_file v image ino missing =
    ap (λ place. slot_reads v image ino (bytes_in image place)) missing
    ∙ ap (λ read. by_slot v ino read [] (tree_under v image ino (named_top v ino [])) (option_map (bytes_of_block image) (named_attr v ino [])) (option_map (bytes_of_block image) (named_link v ino []))) (unread v ino)

module _ (v : Volume) (image : Image) (block : ℕ) (missing : (slot : ℕ) → slot < 8 → reads_as v image (inode_of v block slot) ≡ Reads.Unsound) where
  -- of slots that do not read the first counts
  none_of : (slot : ℕ) (slots : List ℕ) → AllBelow (slot ∷ slots) → gathered v image (map (inode_of v block) (slot ∷ slots)) ≡ of_none (inode_of v block slot) None
  unfolding gathered
  none_of slot [] below = ap (λ read. gathered_both (of_read v image (inode_of v block slot) read) nothing_gathered) (missing slot below.0)
  none_of slot (next ∷ slots) below =
      ap (λ read. gathered_both (of_read v image (inode_of v block slot) read) (gathered v image (map (inode_of v block) (next ∷ slots)))) (missing slot below.0)
      ∙ ap (gathered_both (of_none (inode_of v block slot) None)) (none_of next slots below.1)

pub none_read : (v : Volume) (image : Image) (block : ℕ) → HasGroups v.dblocks v.agblocks v.agcount → HasAddresses v.agblocks v.agblklog → v.dblocks ≤ block
    → gathered v image (inodes_of_block v block) ≡ of_none (inode_of v block 0) None
none_read v image block shape addresses outside =
    none_of v image block (λ slot few. no_file v image (inode_of v block slot) (no_slot v block slot shape addresses outside few)) 0 (range_with_len 1 7)
    (omega arith, (omega arith, (omega arith, (omega arith, (omega arith, (omega arith, (omega arith, (omega arith, tt))))))))
