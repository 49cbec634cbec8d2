-- The log sequence numbers of a volume, by block and then by byte (chapter "Journaling Log").
use Rattle.std.specs.Prelude.{◌≡◌, ℕ, Bool, true, ◌+◌, ◌*◌, ◌==◌, ◌&&◌, ◌||◌, nat_lt, nat_le, if◌then◌else◌, List, [], ◌∷◌, ◌++◌, map}
use Rattle.std.specs.List.{flat_map}
use Rattle.xfs_word.specs.Field.{field_of}
use Rattle.xfs_word.specs.declared.extents.Extent.{Extent}
use Rattle.xfs_disk.specs.Blocks.{Image, bytes_of_block}
use Rattle.xfs_geom.specs.Groups.{block_of_address}
use Rattle.xfs_geom.specs.Volumes.{Volume}
use Rattle.xfs_inode.specs.xfs_tree.Blocks.{each_of}
use Rattle.xfs_volume.specs.Names.{type_of}
use Rattle.xfs_volume.specs.declared.catalogs.BlockLsn.{BlockLsn}
use Rattle.xfs_volume.specs.declared.files.FileRec.{FileRec}
use Rattle.xfs_volume.specs.declared.groups.GroupRec.{GroupRec}
use Rattle.xfs_volume.specs.declared.groups.TreeBlocks.{TreeBlocks}
use Rattle.xfs_image.specs.Files.{clusters_of}
use Rattle.xfs_image.specs.Groups.{head_block}
use Rattle.xfs_image.specs.Slots.{cluster_blocks}

-- where a log sequence number stands: a block number and a byte offset in the block
pub record LsnPlace : Type 0 where
  pub block : ℕ
  pub byte : ℕ

abbrev pub at : ℕ → ℕ → LsnPlace
at byte block = record { block = block; byte = byte }

-- those of the headers of a group, in sectors 1, 2 and 3 of its first block
abbrev pub head_places : Volume → ℕ → List LsnPlace
head_places v ag = at 720 (head_block v ag) ∷ at 1344 (head_block v ag) ∷ at 1560 (head_block v ag) ∷ []

-- those of the blocks of a group's trees
abbrev pub tree_lsn_places : GroupRec → List LsnPlace
tree_lsn_places g = flat_map (λ (tree : TreeBlocks). map (at 24) tree.blocks) g.blocks

abbrev pub groups_places : Volume → ℕ → List GroupRec → List LsnPlace
groups_places v ag [] = []
groups_places v ag (g ∷ gs) = head_places v ag ++ tree_lsn_places g ++ groups_places v (ag + 1) gs

-- those of the eight slots of a block, and of all slots of a cluster
abbrev pub slot_place : ℕ → ℕ → LsnPlace
slot_place block slot = at (512 * slot + 112) block

abbrev pub cluster_places : ℕ → List LsnPlace
cluster_places cluster = flat_map (λ block. each_of 8 (slot_place block)) (cluster_blocks cluster)

-- those of the blocks of an extent, by what a block has at its number in the file
abbrev pub extent_place : Volume → (ℕ → ℕ) → Extent → ℕ → LsnPlace
extent_place v byte e i = at (byte (e.offset + i)) (block_of_address v.agblocks v.agblklog e.start + i)

abbrev pub extent_places : Volume → (ℕ → ℕ) → Extent → List LsnPlace
extent_places v byte e = each_of e.count (extent_place v byte e)

-- a directory's data and free blocks have theirs at byte 16, blocks of its index at byte 24
abbrev pub dir_byte : ℕ → ℕ
dir_byte offset = if nat_le 0x80_0000 offset && nat_lt offset 0x100_0000 then 24 else 16

-- those of the data fork: of directories and symbolic links alone
abbrev pub data_places : Volume → FileRec → List LsnPlace
data_places v f =
    if type_of f == 4 then flat_map (extent_places v dir_byte) f.extents
    else if type_of f == 10 then flat_map (extent_places v (λ offset. 48)) f.extents
    else []

-- those of a file: of its data fork, of the blocks of its extent tree, of its attributes
abbrev pub file_places : Volume → FileRec → List LsnPlace
file_places v f = data_places v f ++ map (at 32) f.rest.tree ++ flat_map (extent_places v (λ offset. 24)) f.rest.attr_extents

-- all places: of the primary superblock, the groups, the slots of recorded chunks, the files; backups have none
abbrev pub lsn_places : Volume → List GroupRec → List FileRec → List LsnPlace
lsn_places v groups files =
    at 240 0 ∷ groups_places v 0 groups ++ flat_map cluster_places (clusters_of v groups) ++ flat_map (file_places v) files

-- a place comes no later than another: its block does, or it is the same block and its byte does
abbrev pub is_place_upto : LsnPlace → LsnPlace → Bool
is_place_upto a b = nat_lt a.block b.block || (a.block == b.block && nat_le a.byte b.byte)

-- a place among places in order
abbrev pub with_place : LsnPlace → List LsnPlace → List LsnPlace
with_place p [] = p ∷ []
with_place p (q ∷ qs) = if is_place_upto p q then p ∷ q ∷ qs else (q ∷ with_place p qs)

abbrev pub lsn_places_in_order : List LsnPlace → List LsnPlace
lsn_places_in_order [] = []
lsn_places_in_order (p ∷ ps) = with_place p (lsn_places_in_order ps)

-- a place comes no later than any of these, and each no later than those behind it
abbrev pub IsUptoAll : LsnPlace → List LsnPlace → Type 0
IsUptoAll p [] = Unit {0}
IsUptoAll p (q ∷ qs) = (is_place_upto p q ≡ true) × IsUptoAll p qs

abbrev pub PlacesInOrder : List LsnPlace → Type 0
PlacesInOrder [] = Unit {0}
PlacesInOrder (p ∷ ps) = IsUptoAll p ps × PlacesInOrder ps

-- the number that stands at a place
abbrev pub lsn_at : Image → LsnPlace → BlockLsn
lsn_at image p = record { block = p.block; lsn = field_of (bytes_of_block image p.block) p.byte 8 }

-- all log sequence numbers, in order
unfoldable pub lsns_read : Volume → Image → List GroupRec → List FileRec → List BlockLsn
lsns_read v image groups files = map (lsn_at image) (lsn_places_in_order (lsn_places v groups files))
