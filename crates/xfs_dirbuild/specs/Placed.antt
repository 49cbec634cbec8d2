-- A directory whose blocks got their places and seals.
use Rattle.std.specs.Prelude.{◌≡◌, true, false, ℕ, Bool, ◌+◌, ◌*◌, ◌<◌, ◌&&◌, nat_le, nat_lt, if◌then◌else◌, List, [], ◌++◌, map, filter, length, slice_index_or, Some}
use Rattle.std.specs.List.{range_with_len, flat_map}
use Rattle.xfs_word.specs.Field.{field_of}
use Rattle.xfs_word.specs.Seal.{has_magic}
use Rattle.xfs_word.specs.declared.kinds.SealKind.TheVariants.{DirData, DirFree}
use Rattle.xfs_dirdata.specs.declared.records.EntryRec.{EntryRec}
use Rattle.xfs_dirdata.specs.Data.{area_of}
use Rattle.xfs_dirdata.specs.Written.{in_directory, written_area}
use Rattle.xfs_dirindex.specs.Mapped.{Mapped, mapped, is_data}
use Rattle.xfs_dirindex.specs.Data.{area_in}
use Rattle.xfs_dirindex.specs.Block.{is_whole_block}
use Rattle.xfs_dirindex.specs.Leaf.{is_whole_leaf}
use Rattle.xfs_dirindex.specs.Node.{is_whole_node}
use Rattle.xfs_dirbuild.specs.declared.forms.DirectoryForm.{DirectoryForm}
use Rattle.xfs_dirbuild.specs.declared.forms.DirectoryForm.TheVariants.{Short, Single, Leaf, Node}
use Rattle.xfs_dirbuild.specs.Filling.{all_entries}
use Rattle.xfs_dirbuild.specs.Index.{IsPlacedBlock, IsIndexed}

-- a data block of the leaf and node form that has these entries
pub record IsBuiltDataBlock (entries : List EntryRec) (bytes : List ℕ) : Type 0 where
  pub magic : field_of bytes 0 4 ≡ 0x58444433
  pub long : length bytes ≡ 4096
  pub area : (dir : ℕ) → area_of dir bytes ≡ Some (written_area dir entries 4096)

-- the file blocks of so many data, index and free blocks
abbrev pub file_blocks : ℕ → ℕ → ℕ → List ℕ
file_blocks datas indexes frees = range_with_len 0 datas ++ (range_with_len 0x800000 indexes ++ range_with_len 0x1000000 frees)

-- the blocks have the magic numbers of their kinds, by which they are sealed
pub record HaveMagics (datas indexes frees : ℕ) (built : List (List ℕ)) : Type 0 where
  pub data_blocks : (k : ℕ) → k < datas → has_magic DirData (slice_index_or built k []) ≡ true
  pub index_blocks : (k : ℕ) → k < indexes → IsIndexed (slice_index_or built (datas + k) [])
  pub free_blocks : (k : ℕ) → k < frees → has_magic DirFree (slice_index_or built (datas + indexes + k) []) ≡ true

-- where the seal of a block begins: data and free blocks have their checksum, place, log sequence number, identifier and
-- owner in the bytes from 4 to 47, index blocks in those from 12 to 55
abbrev pub seal_of : ℕ → ℕ → ℕ → ℕ
seal_of datas indexes block = if nat_le datas block && nat_lt block (datas + indexes) then 12 else 4

-- blocks are those that were built, but for their seals
pub record ArePlacedBlocks (datas indexes : ℕ) (built placed : List (List ℕ)) : Type 0 where
  pub count : length placed ≡ length built
  pub each : (k : ℕ) → k < length built → IsPlacedBlock (seal_of datas indexes k) (slice_index_or built k []) (slice_index_or placed k [])

-- the entries of the data blocks
unfoldable pub built_entries : ℕ → Bool → List Mapped → List EntryRec
built_entries dir single ms = flat_map (λ m. (area_in dir single m).entries) (filter is_data ms)

-- a directory of a form is whole; a short form has no blocks
abbrev pub is_whole_in_form : DirectoryForm → ℕ → ℕ → List Mapped → Bool
is_whole_in_form Short dir size ms = true
is_whole_in_form Single dir size ms = is_whole_block dir size ms
is_whole_in_form Leaf dir size ms = is_whole_leaf dir size ms
is_whole_in_form Node dir size ms = is_whole_node dir size ms

abbrev pub has_single_form : DirectoryForm → Bool
has_single_form Short = false
has_single_form Single = true
has_single_form Leaf = false
has_single_form Node = false

-- the entries that a form has in blocks
abbrev pub form_entries : DirectoryForm → ℕ → ℕ → List EntryRec → List EntryRec
form_entries Short dir parent entries = []
form_entries Single dir parent entries = map (in_directory dir) (all_entries dir parent entries)
form_entries Leaf dir parent entries = map (in_directory dir) (all_entries dir parent entries)
form_entries Node dir parent entries = map (in_directory dir) (all_entries dir parent entries)

-- mapped blocks are the whole directory, with exactly these entries
pub record IsWhole (form : DirectoryForm) (dir parent size : ℕ) (entries : List EntryRec) (ms : List Mapped) : Type 0 where
  pub rules : is_whole_in_form form dir size ms ≡ true
  pub entries_are : built_entries dir (has_single_form form) ms ≡ form_entries form dir parent entries

-- so they are, whatever their seals and places
abbrev pub IsBuilt : DirectoryForm → ℕ → ℕ → ℕ → ℕ → ℕ → List EntryRec → List (List ℕ) → Type 0
IsBuilt form dir parent datas indexes frees entries built =
    (placed : List (List ℕ)) → ArePlacedBlocks datas indexes built placed
    → IsWhole form dir parent (4096 * datas) entries (mapped (file_blocks datas indexes frees) placed)
