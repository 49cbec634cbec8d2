-- Writes of whole blocks: what is due where, in which order, and what a disk then holds.
use Rattle.std.specs.Prelude.{◌≡◌, ℕ, ◌+◌, ◌⊎◌, List, [], ◌∷◌, map, take, slice_index_or, slice_set, Option, Some}
use Rattle.xfs_disk.specs.Blocks.{Image}
use Rattle.xfs_writing.specs.declared.rows.Row.{Row}

-- block numbers and the bytes that are due there, in the order of writing
abbrev pub Writes : Type 0
Writes = List (ℕ × List ℕ)

-- the image once all is written
abbrev pub written : Writes → Image → Image
written [] image = image
written (write ∷ writes) image = written writes (slice_set image write.0 write.1)

-- the image once the first n blocks are written, the next one old or new, all others old
abbrev pub IsPartly : Writes → Image → ℕ → Option Image → Type 0
IsPartly writes image n now = (now ≡ Some (written (take n writes) image)) ⊎ (now ≡ Some (written (take (n + 1) writes) image))

-- rows of blocks by their numbers, each with the index of its bytes, which are counted from an index on
abbrev pub rows_from : ℕ → List ℕ → List Row
rows_from index [] = []
rows_from index (at ∷ places) = record { at = at; index = index } ∷ rows_from (index + 1) places

-- what is written of a row, where the bank has these blocks
abbrev pub write_of : Image → Row → ℕ × List ℕ
write_of bank r = (r.at, slice_index_or bank r.index [])

-- what is written of rows, in their order
abbrev pub writes_of_rows : Image → List Row → Writes
writes_of_rows bank rows = map (write_of bank) rows
