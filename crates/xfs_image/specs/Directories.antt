-- Directories as they read: their entries, the parent that they state, and whether they are whole (chapter "Directories").
use Rattle.std.specs.Prelude.{ℕ, Bool, not, ◌+◌, ◌*◌, ◌==◌, ◌&&◌, ◌||◌, if◌then◌else◌, List, [], ◌∷◌, map, Option, Some, None, is_some}
use Rattle.std.specs.List.{filter, find, flat_map, list_all, list_any}
use Rattle.xfs_word.specs.Field.{field_of, part_of}
use Rattle.xfs_word.specs.Seal.{is_sealed}
use Rattle.xfs_word.specs.declared.extents.Extent.{Extent}
use Rattle.xfs_word.specs.declared.kinds.SealKind.{SealKind}
use Rattle.xfs_word.specs.declared.kinds.SealKind.TheVariants as Kind
use Rattle.xfs_disk.specs.Blocks.{Image, bytes_of_block}
use Rattle.xfs_geom.specs.Groups.{block_of_address}
use Rattle.xfs_geom.specs.Volumes.{Volume}
use Rattle.xfs_inode.specs.xfs_tree.Blocks.{each_of}
use Rattle.xfs_dirindex.specs.xfs_dirdata.Data.{DataArea, data_of}
use Rattle.xfs_dirindex.specs.xfs_dirdata.Short.{ShortForm, short_of}
use Rattle.xfs_dirindex.specs.xfs_dirdata.declared.records.EntryRec.{EntryRec}
use Rattle.xfs_dirindex.specs.Block.{is_whole_block}
use Rattle.xfs_dirindex.specs.Data.{is_dots, is_parent_name}
use Rattle.xfs_dirindex.specs.Leaf.{is_whole_leaf}
use Rattle.xfs_dirindex.specs.Mapped.{Mapped, mapped_block, is_data, is_free_index}
use Rattle.xfs_dirindex.specs.Node.{is_whole_node}
use Rattle.xfs_volume.specs.Names.{is_directory}
use Rattle.xfs_volume.specs.declared.directories.DirRec.{DirRec}
use Rattle.xfs_volume.specs.declared.files.FileRec.{FileRec}
use Rattle.xfs_image.specs.Slots.{slot_bytes}

-- a block of a file: its block number, its number in the file, and its bytes
pub record FileBlock : Type 0 where
  pub block : ℕ
  pub mapped : Mapped

abbrev pub file_block_at : Volume → Image → Extent → ℕ → FileBlock
file_block_at v image e i =
    let block = block_of_address v.agblocks v.agblklog e.start + i in
    record { block = block; mapped = mapped_block (e.offset + i) (bytes_of_block image block) }

abbrev pub blocks_of_extent : Volume → Image → Extent → List FileBlock
blocks_of_extent v image e = each_of e.count (file_block_at v image e)

-- the blocks of the data fork of a file, in file order, those that are not written yet among them
unfoldable pub data_blocks : Volume → Image → FileRec → List FileBlock
data_blocks v image f = flat_map (blocks_of_extent v image) f.extents

abbrev pub mapped_blocks : Volume → Image → FileRec → List Mapped
mapped_blocks v image f = map (λ (b : FileBlock). b.mapped) (data_blocks v image f)

-- the directory stands in its slot, in short form
abbrev pub is_short : FileRec → Bool
is_short f = f.core.format == 1

-- what the short form of a directory states, where it keeps its rules: it has as many bytes as the directory
unfoldable pub short_form : Volume → Image → FileRec → Option ShortForm
short_form v image f = short_of f.ino (part_of (slot_bytes v image f.ino) 176 f.core.size)

-- a block of a directory is sealed at its place as one of this kind, with the directory as its owner
abbrev pub is_sealed_as : Volume → ℕ → FileBlock → SealKind → Bool
is_sealed_as v dir b kind = is_sealed (record { kind = kind; place = 8 * b.block; owner = Some dir; uuid = v.uuid }) b.mapped.bytes

-- the block says by its magic number that it is the only one of its directory
abbrev pub is_single_form : List ℕ → Bool
is_single_form bytes = field_of bytes 0 4 == 0x5844_4233

abbrev pub entries_of_area : Option DataArea → List EntryRec
entries_of_area None = []
entries_of_area (Some area) = area.entries

-- the entries of a data block that is sealed and keeps its rules; none of another
unfoldable pub entries_in_block : Volume → ℕ → FileBlock → List EntryRec
entries_in_block v dir b =
    if is_data b.mapped && is_sealed_as v dir b Kind.DirData
    then entries_of_area (data_of dir b.mapped.bytes (is_single_form b.mapped.bytes)) else []

-- all entries of the data blocks, in file order, with those named "." and ".."
abbrev pub block_entries : Volume → Image → FileRec → List EntryRec
block_entries v image f = flat_map (entries_in_block v f.ino) (data_blocks v image f)

abbrev pub is_beside_dots : EntryRec → Bool
is_beside_dots e = not (is_dots e)

abbrev pub entries_of_form : Option ShortForm → List EntryRec
entries_of_form None = []
entries_of_form (Some form) = form.entries

-- the entries that read of a directory, in its order: those of its short form, or those of its data blocks but "." and ".."
unfoldable pub entries_of : Volume → Image → FileRec → List EntryRec
entries_of v image f =
    if is_short f then entries_of_form (short_form v image f) else filter is_beside_dots (block_entries v image f)

-- the parent that a directory states: that of its short form, or the target of the first ".." of its data blocks; 0 where
-- none reads
abbrev pub parent_of_form : Option ShortForm → ℕ
parent_of_form None = 0
parent_of_form (Some form) = form.parent

abbrev pub entry_target : Option EntryRec → ℕ
entry_target None = 0
entry_target (Some e) = e.ino

unfoldable pub parent_of : Volume → Image → FileRec → ℕ
parent_of v image f =
    if is_short f then parent_of_form (short_form v image f)
    else entry_target (find (λ (e : EntryRec). is_parent_name e.name) (block_entries v image f))

-- the kinds that a block of a directory can have by its number in the file: data, free blocks, blocks of the index
abbrev pub kinds_at : Mapped → List SealKind
kinds_at m =
    if is_data m then (Kind.DirData ∷ [])
    else if is_free_index m then (Kind.DirFree ∷ [])
    else (Kind.Index 0x3df1 ∷ Kind.Index 0x3dff ∷ Kind.Index 0x3ebe ∷ [])

abbrev pub is_own : Volume → ℕ → FileBlock → Bool
is_own v dir b = list_any (is_sealed_as v dir b) (kinds_at b.mapped)

-- the mapped blocks are whole in one of the three forms with blocks
abbrev pub has_whole_form : ℕ → ℕ → List Mapped → Bool
has_whole_form dir size ms = is_whole_block dir size ms || is_whole_leaf dir size ms || is_whole_node dir size ms

-- the directory keeps every rule of its form, and all its blocks are sealed for it
unfoldable pub is_whole : Volume → Image → FileRec → Bool
is_whole v image f =
    if is_short f then is_some (short_form v image f)
    else (has_whole_form f.ino f.core.size (mapped_blocks v image f) && list_all (is_own v f.ino) (data_blocks v image f))

-- what is found of a directory
abbrev pub dir_of : Volume → Image → FileRec → DirRec
dir_of v image f = record { ino = f.ino; parent = parent_of v image f; whole = is_whole v image f }

-- the directories among some files, in their order
unfoldable pub directories : List FileRec → List FileRec
directories files = filter is_directory files

-- what is found of them, and all their entries
unfoldable pub dirs_read : Volume → Image → List FileRec → List DirRec
dirs_read v image files = map (dir_of v image) (directories files)

unfoldable pub entries_read : Volume → Image → List FileRec → List EntryRec
entries_read v image files = flat_map (entries_of v image) (directories files)
