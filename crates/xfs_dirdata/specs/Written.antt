-- Entries of directories as they are written (chapter "Directories").
use Rattle.std.specs.Prelude.{◌≡◌, ℕ, ◌+◌, ◌-◌, ◌<◌, ◌^◌, ◌==◌, true, false, if◌then◌else◌, List, [], ◌∷◌, ◌++◌, length, map, take, Option, Some, None}
use Rattle.std.specs.List.{sum_by}
use Rattle.xfs_word.specs.Field.{field_of, part_of, zeros}
use Rattle.xfs_dirdata.specs.Sizes.{data_size, short_size}
use Rattle.xfs_dirdata.specs.Best.{bests_of}
use Rattle.xfs_dirdata.specs.Data.{DataArea, is_span}
use Rattle.xfs_dirdata.specs.declared.records.EntryRec.{EntryRec}
use Rattle.xfs_dirdata.specs.declared.records.FreeSpan.{FreeSpan}

-- an entry can be written: its name has at most 255 bytes, and its inode number at most 4
pub record IsWritableEntry (e : EntryRec) : Type 0 where
  pub name : length e.name < 256
  pub ino : e.ino < 2 ^ 32

-- the entry as one of a directory
abbrev pub in_directory : ℕ → EntryRec → EntryRec
in_directory dir e = record { dir = dir; name = e.name; ino = e.ino; ftype = e.ftype }

-- how many bytes an entry has in a short form and in a data block, and how many these have
abbrev pub short_size_of : EntryRec → ℕ
short_size_of e = short_size (length e.name)

abbrev pub data_size_of : EntryRec → ℕ
data_size_of e = data_size (length e.name)

abbrev pub short_length : List EntryRec → ℕ
short_length entries = sum_by short_size_of entries

abbrev pub data_length : List EntryRec → ℕ
data_length entries = sum_by data_size_of entries

-- an entry stands in a short form at a byte offset, with its offset in a data block
pub record IsShortEntry (form : List ℕ) (at offset : ℕ) (e : EntryRec) : Type 0 where
  pub name_length : field_of form at 1 ≡ length e.name
  pub data_offset : field_of form (at + 1) 2 ≡ offset
  pub name : part_of form (at + 3) (length e.name) ≡ e.name
  pub ftype : field_of form (at + 3 + length e.name) 1 ≡ e.ftype
  pub ino : field_of form (at + 4 + length e.name) 4 ≡ e.ino

-- entries stand in a short form one behind the other from a byte offset on, as in a data block from an offset on
abbrev pub AreShortEntries : List ℕ → ℕ → ℕ → List EntryRec → Type 0
AreShortEntries form at offset [] = Unit {0}
AreShortEntries form at offset (e ∷ es) =
    IsShortEntry form at offset e × AreShortEntries form (at + short_size_of e) (offset + data_size_of e) es

-- an entry stands in a data block at a byte offset, with zeros between its file type and its tag, and is not taken for an
-- unused span
pub record IsDataEntry (bytes : List ℕ) (at : ℕ) (spelled : List ℕ) (number kind : ℕ) : Type 0 where
  pub entry : is_span bytes at ≡ false
  pub ino : field_of bytes at 8 ≡ number
  pub name_length : field_of bytes (at + 8) 1 ≡ length spelled
  pub name : part_of bytes (at + 9) (length spelled) ≡ spelled
  pub ftype : field_of bytes (at + 9 + length spelled) 1 ≡ kind
  pub padding : part_of bytes (at + 10 + length spelled) (at + data_size (length spelled) - 2 - (at + 10 + length spelled))
      ≡ zeros (at + data_size (length spelled) - 2 - (at + 10 + length spelled))
  pub tag : field_of bytes (at + data_size (length spelled) - 2) 2 ≡ at

-- entries stand in a data block one behind the other from a byte offset on
abbrev pub AreDataEntries : List ℕ → ℕ → List EntryRec → Type 0
AreDataEntries bytes at [] = Unit {0}
AreDataEntries bytes at (e ∷ es) = IsDataEntry bytes at e.name e.ino e.ftype × AreDataEntries bytes (at + data_size_of e) es

-- the byte offsets at which such entries stand
abbrev pub offsets : ℕ → List EntryRec → List ℕ
offsets at [] = []
offsets at (e ∷ es) = at ∷ offsets (at + data_size_of e) es

-- so many bytes from a byte offset on are an unused span, with zeros between its length and its tag
pub record IsUnused (bytes : List ℕ) (at size : ℕ) : Type 0 where
  pub mark : is_span bytes at ≡ true
  pub long : field_of bytes (at + 2) 2 ≡ size
  pub rest : part_of bytes (at + 4) (at + size - 2 - (at + 4)) ≡ zeros (at + size - 2 - (at + 4))
  pub tag : field_of bytes (at + size - 2) 2 ≡ at

-- the entries "." and "..", which name the directory and its parent, where these are given
abbrev pub first_entries : Option (ℕ × ℕ) → List EntryRec
first_entries None = []
first_entries (Some (dir, parent)) =
    record { dir = dir; name = 46 ∷ []; ino = dir; ftype = 2 } ∷ record { dir = dir; name = 46 ∷ 46 ∷ []; ino = parent; ftype = 2 } ∷ []

-- these, and behind them so many entries
abbrev pub placed_entries : Option (ℕ × ℕ) → List EntryRec → ℕ → List EntryRec
placed_entries first entries count = first_entries first ++ take count entries

-- the unused span that is left from a byte offset on
abbrev pub rest_span : ℕ → ℕ → List FreeSpan
rest_span at end = if at == end then [] else record { offset = at; length = end - at } ∷ []

-- what a data block states that has these entries and is unused from there to the end
unfoldable pub written_area : ℕ → List EntryRec → ℕ → DataArea
written_area dir entries end =
    let free = rest_span (64 + data_length entries) end in
    record { entries = map (in_directory dir) entries; places = offsets 64 entries; free = free; bests = bests_of free }
