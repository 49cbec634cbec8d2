-- The short form of a directory, which stands in the inode (chapter "Directories", "Short Form Directories").
use Rattle.std.specs.Prelude.{ℕ, zero, suc, Bool, ◌+◌, ◌*◌, ◌%◌, ◌==◌, ◌&&◌, nat_le, if◌then◌else◌, List, [], ◌∷◌, length, Option, Some, None}
use Rattle.std.specs.Option.{option_map}
use Rattle.xfs_word.specs.Field.{field_of, part_of}
use Rattle.xfs_dirdata.specs.Sizes.{data_size, short_size}
use Rattle.xfs_dirdata.specs.declared.records.EntryRec.{EntryRec}

-- what a short form states: the parent's inode number and the entries
pub record ShortForm : Type 0 where
  pub parent : ℕ
  pub entries : List EntryRec

-- the entry at a byte offset of the form
unfoldable pub short_entry : ℕ → List ℕ → ℕ → EntryRec
short_entry dir form at =
    let name_length = field_of form at 1 in
    record { dir = dir; name = part_of form (at + 3) name_length; ino = field_of form (at + 4 + name_length) 4; ftype = field_of form (at + 3 + name_length) 1 }

-- how many bytes that entry has
abbrev pub short_size_at : List ℕ → ℕ → ℕ
short_size_at form at = short_size (field_of form at 1)

-- the offset that the entry would have in a data block, and where it would end there
abbrev pub data_offset_at : List ℕ → ℕ → ℕ
data_offset_at form at = field_of form (at + 1) 2

abbrev pub data_end_at : List ℕ → ℕ → ℕ
data_end_at form at = data_offset_at form at + data_size (field_of form at 1)

-- the entry lies in the form, and in a data block it would stand at a multiple of 8, at or behind a byte offset
abbrev pub is_short_entry : List ℕ → ℕ → ℕ → Bool
is_short_entry form at least =
    nat_le (at + short_size_at form at) (length form) && data_offset_at form at % 8 == 0 && nat_le least (data_offset_at form at)

-- so many entries fill the form from a byte offset to its end; in a data block they would follow each other from another
-- byte offset on, with so many bytes left behind the last
unfoldable pub short_entries : ℕ → List ℕ → ℕ → ℕ → ℕ → ℕ → Option (List EntryRec)
short_entries dir form behind zero at least = if at == length form && nat_le (least + behind) 4096 then Some [] else None
short_entries dir form behind (suc count) at least =
    if is_short_entry form at least
    then option_map (λ rest. short_entry dir form at ∷ rest) (short_entries dir form behind count (at + short_size_at form at) (data_end_at form at))
    else None

-- the index and the tail that a single block would have behind so many entries, with those of the directory and its parent
abbrev pub index_size : ℕ → ℕ
index_size count = 8 * (count + 2) + 8

-- what a short form states, where it keeps its rules
unfoldable pub short_of : ℕ → List ℕ → Option ShortForm
short_of dir form =
    let count = field_of form 0 1 in
    if nat_le 6 (length form) && field_of form 1 1 == 0
    then option_map (λ entries. let stated : ShortForm = record { parent = field_of form 2 4; entries = entries } in stated) (short_entries dir form (index_size count) count 6 96)
    else None
