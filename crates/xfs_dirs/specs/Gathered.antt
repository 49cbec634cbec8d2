-- What the blocks of a directory give, taken one by one in file order (chapter "Directories").
use Rattle.std.specs.Prelude.{◌≡◌, ℕ, ◌≤◌, ◌+◌, ◌&&◌, Bool, false, if◌then◌else◌, List, [], ◌∷◌, ◌++◌, length, map, filter, Option, Some, None, option_map}
use Rattle.std.specs.Option.{option_or}
use Rattle.std.specs.List.{find, flat_map}
use Rattle.xfs_word.specs.declared.extents.Extent.{Extent}
use Rattle.xfs_disk.specs.Blocks.{Image}
use Rattle.xfs_geom.specs.Volumes.{Volume}
use Rattle.xfs_dirdata.specs.Data.{data_of}
use Rattle.xfs_dirdata.specs.declared.records.EntryRec.{EntryRec}
use Rattle.xfs_dirindex.specs.Data.{is_parent_name}
use Rattle.xfs_dirindex.specs.Mapped.{Mapped, mapped_block, is_data}
use Rattle.xfs_image.specs.Directories.{FileBlock, blocks_of_extent, entries_in_block, entries_of_area, has_whole_form, is_beside_dots, is_own, is_single_form}
use Rattle.xfs_dirs.specs.declared.gathered.Gathered.{Gathered}
use Rattle.xfs_dirs.specs.declared.gathered.KeptBlocks.{KeptBlocks}
use Rattle.xfs_dirs.specs.declared.gathered.KeptBlock.{KeptBlock}

-- the block of this number, which stands at this block of the file
abbrev pub file_block : ℕ → ℕ → List ℕ → FileBlock
file_block block offset bytes = record { block = block; mapped = mapped_block offset bytes }

-- what blocks give: the entries, the target of the first ".." among them, and all the blocks, where each is sealed for the
-- directory
pub record Found : Type 0 where
  pub entries : List EntryRec
  pub parent : Option ℕ
  pub kept : Option (List Mapped)

abbrev pub found_nothing : Found
found_nothing = record { entries = []; parent = None; kept = Some [] }

-- the entries of a block, where it is its directory's
abbrev pub entries_where : Bool → ℕ → Mapped → List EntryRec
entries_where own dir m =
    if is_data m && own then entries_of_area (data_of dir m.bytes (is_single_form m.bytes)) else []

-- the target of the first ".."
abbrev pub parent_in : List EntryRec → Option ℕ
parent_in entries = option_map (λ (e : EntryRec). e.ino) (find (λ (e : EntryRec). is_parent_name e.name) entries)

-- one more block is kept, where it is its directory's; else none is
abbrev pub kept_with : Bool → Mapped → Option (List Mapped) → Option (List Mapped)
kept_with own m None = None
kept_with own m (Some ms) = if own then Some (ms ++ m ∷ []) else None

-- the blocks of extents, in file order
abbrev pub blocks_in_extents : Volume → Image → List Extent → List FileBlock
blocks_in_extents v image extents = flat_map (blocks_of_extent v image) extents

-- what one more block gives, and some more in turn
unfoldable pub with_file_block : Volume → ℕ → Found → FileBlock → Found
with_file_block v dir found b = record {
  entries = found.entries ++ filter is_beside_dots (entries_in_block v dir b);
  parent = option_or found.parent (parent_in (entries_in_block v dir b));
  kept = kept_with (is_own v dir b) b.mapped found.kept;
}

unfoldable pub with_file_blocks : Volume → ℕ → Found → List FileBlock → Found
with_file_blocks v dir found [] = found
with_file_blocks v dir found (b ∷ bs) = with_file_blocks v dir (with_file_block v dir found b) bs

-- what is gathered, and the blocks among it
abbrev pub mapped_of : KeptBlock → Mapped
mapped_of k = mapped_block k.offset k.bytes

abbrev pub mapped_of_kept : Option KeptBlocks → Option (List Mapped)
mapped_of_kept None = None
mapped_of_kept (Some k) = Some (map mapped_of k.blocks.items)

abbrev pub found_of : Gathered → Found
found_of gathered = record { entries = gathered.entries.items; parent = gathered.parent; kept = mapped_of_kept gathered.kept }

-- blocks are whole, and ascend in the file from a least one on, below an end
abbrev pub OffsetsRise : ℕ → List KeptBlock → ℕ → Type 0
OffsetsRise least [] end = least ≤ end
OffsetsRise least (k ∷ ks) end = (least ≤ k.offset) × (length k.bytes ≡ 4096) × OffsetsRise (k.offset + 1) ks end

-- those that are kept do
abbrev pub AreBelow : Option KeptBlocks → ℕ → Type 0
AreBelow None end = Unit {0}
AreBelow (Some k) end = OffsetsRise 0 k.blocks.items end

-- blocks are whole, and ascend in the file from a least one on
abbrev pub AscendWhole : ℕ → List KeptBlock → Type 0
AscendWhole least [] = Unit {0}
AscendWhole least (k ∷ ks) = (least ≤ k.offset) × (length k.bytes ≡ 4096) × AscendWhole (k.offset + 1) ks

abbrev pub BlocksInOrder : Option KeptBlocks → Type 0
BlocksInOrder None = Unit {0}
BlocksInOrder (Some k) = AscendWhole 0 k.blocks.items

-- blocks that are kept are whole in one of the forms
abbrev pub is_whole_kept : ℕ → ℕ → Option (List Mapped) → Bool
is_whole_kept dir size None = false
is_whole_kept dir size (Some ms) = has_whole_form dir size ms
