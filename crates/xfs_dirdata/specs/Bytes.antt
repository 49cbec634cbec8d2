-- The bytes of directories: what a data block has behind what identifies it, and a short form (chapter "Directories").
use Rattle.std.specs.Prelude.{ℕ, ◌+◌, ◌-◌, List, [], ◌∷◌, ◌++◌, length}
use Rattle.std.specs.Int.{bytes_high_first}
use Rattle.std.specs.List.{concat, flat_map}
use Rattle.xfs_word.specs.Field.{zeros}
use Rattle.xfs_dirdata.specs.Best.{bests_of}
use Rattle.xfs_dirdata.specs.Written.{data_size_of, data_length, rest_span}
use Rattle.xfs_dirdata.specs.declared.records.EntryRec.{EntryRec}
use Rattle.xfs_dirdata.specs.declared.records.FreeSpan.{FreeSpan}

-- so many bytes of a number, the highest first
abbrev pub big_endian : ℕ → ℕ → List ℕ
big_endian width number = bytes_high_first width number

-- an entry of a data block at a byte offset: the inode number, the length of the name, the name, the file type, zeros up to
-- the tag, and the tag
unfoldable pub entry_bytes : ℕ → EntryRec → List ℕ
entry_bytes at e =
    concat (big_endian 8 e.ino ∷ big_endian 1 (length e.name) ∷ e.name ∷ big_endian 1 e.ftype
    ∷ zeros (data_size_of e - (length e.name + 12)) ∷ big_endian 2 at ∷ [])

-- entries one behind the other from a byte offset on
abbrev pub entries_bytes : ℕ → List EntryRec → List ℕ
entries_bytes at [] = []
entries_bytes at (e ∷ es) = entry_bytes at e ++ entries_bytes (at + data_size_of e) es

-- an unused span: its mark, its length, zeros up to the tag, and the tag
unfoldable pub free_span_bytes : FreeSpan → List ℕ
free_span_bytes s = concat (big_endian 2 0xffff ∷ big_endian 2 s.length ∷ zeros (s.length - 6) ∷ big_endian 2 s.offset ∷ [])

-- a span as the header states it
abbrev pub best_bytes : FreeSpan → List ℕ
best_bytes s = big_endian 2 s.offset ++ big_endian 2 s.length

-- a data block with these entries, from its byte 48 up to the end of its entries and unused spans: the largest unused spans,
-- zeros, the entries, and one unused span that has what is left
unfoldable pub data_bytes : List EntryRec → ℕ → List ℕ
data_bytes entries end =
    let free = rest_span (64 + data_length entries) end in
    concat (flat_map best_bytes (bests_of free) ∷ zeros 4 ∷ entries_bytes 64 entries ∷ flat_map free_span_bytes free ∷ [])

-- an entry of a short form, with its offset in a data block: the length of the name, that offset, the name, the file type
-- and the inode number
unfoldable pub short_entry_bytes : ℕ → EntryRec → List ℕ
short_entry_bytes offset e =
    concat (big_endian 1 (length e.name) ∷ big_endian 2 offset ∷ e.name ∷ big_endian 1 e.ftype ∷ big_endian 4 e.ino ∷ [])

-- entries one behind the other; in a data block they would do so from a byte offset on
abbrev pub short_entries_bytes : ℕ → List EntryRec → List ℕ
short_entries_bytes offset [] = []
short_entries_bytes offset (e ∷ es) = short_entry_bytes offset e ++ short_entries_bytes (offset + data_size_of e) es

-- a short form: the number of entries, none of which has an inode number of 8 bytes, the parent, and the entries, which would
-- stand in a data block behind those of the directory and its parent
unfoldable pub short_bytes : ℕ → List EntryRec → List ℕ
short_bytes parent entries =
    concat (big_endian 1 (length entries) ∷ big_endian 1 0 ∷ big_endian 4 parent ∷ short_entries_bytes 96 entries ∷ [])
