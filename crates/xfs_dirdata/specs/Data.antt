-- The data blocks of a directory (chapter "Directories", "Block Directories" and "Leaf Directories").
use Rattle.std.specs.Prelude.{◌≡◌, true, ◌≤◌, ℕ, zero, suc, Bool, not, ◌+◌, ◌*◌, ◌-◌, ◌%◌, ◌==◌, ◌&&◌, ◌||◌, nat_le, if◌then◌else◌, List, [], ◌∷◌, map, length, Option, Some, None}
use Rattle.std.specs.List.{filter}
use Rattle.std.specs.Option.{option_map, option_and_then}
use Rattle.xfs_word.specs.Field.{field_of, part_of}
use Rattle.xfs_dirdata.specs.Sizes.{data_size}
use Rattle.xfs_dirdata.specs.Best.{are_bests}
use Rattle.xfs_dirdata.specs.declared.records.EntryRec.{EntryRec}
use Rattle.xfs_dirdata.specs.declared.records.FreeSpan.{FreeSpan}

-- what a data block states: the entries and the byte offsets at which they stand, the unused spans, and those that are
-- said to be the largest
pub record DataArea : Type 0 where
  pub entries : List EntryRec
  pub places : List ℕ
  pub free : List FreeSpan
  pub bests : List FreeSpan

-- what stands at a byte offset is an unused span and no entry
unfoldable pub is_span : List ℕ → ℕ → Bool
is_span bytes at = field_of bytes at 2 == 0xffff

abbrev pub is_entry : List ℕ → ℕ → Bool
is_entry bytes at = not (is_span bytes at)

-- the unused span at a byte offset
abbrev pub span_at : List ℕ → ℕ → FreeSpan
span_at bytes at = record { offset = at; length = field_of bytes (at + 2) 2 }

-- the entry at a byte offset
unfoldable pub entry_at : ℕ → List ℕ → ℕ → EntryRec
entry_at dir bytes at =
    let name_length = field_of bytes (at + 8) 1 in
    record { dir = dir; name = part_of bytes (at + 9) name_length; ino = field_of bytes at 8; ftype = field_of bytes (at + 9 + name_length) 1 }

-- how many bytes the entry at a byte offset has, and the entry or unused span there
abbrev pub entry_size_at : List ℕ → ℕ → ℕ
entry_size_at bytes at = data_size (field_of bytes (at + 8) 1)

abbrev pub size_at : List ℕ → ℕ → ℕ
size_at bytes at = if is_span bytes at then field_of bytes (at + 2) 2 else entry_size_at bytes at

-- so many bytes from an offset on lie inside, and end with the tag, which is the offset
abbrev pub is_tagged : List ℕ → ℕ → ℕ → Bool
is_tagged bytes at size = nat_le (at + size) (length bytes) && field_of bytes (at + size - 2) 2 == at

-- so many bytes from an offset on are an unused span: a multiple of 8, and no unused span follows
abbrev pub is_sound_span : List ℕ → ℕ → ℕ → Bool
is_sound_span bytes at size =
    nat_le 8 size && size % 8 == 0 && is_tagged bytes at size && (at + size == length bytes || is_entry bytes (at + size))

-- what stands at a byte offset keeps its rules
unfoldable pub is_item : List ℕ → ℕ → Bool
is_item bytes at = if is_span bytes at then is_sound_span bytes at (size_at bytes at) else is_tagged bytes at (size_at bytes at)

-- so many bytes from an offset on are some, a multiple of 8, and lie inside
pub record HasSize (bytes : List ℕ) (at size : ℕ) : Type 0 where
  pub some : 8 ≤ size
  pub aligned : size % 8 ≡ 0
  pub inside : at + size ≤ length bytes

-- the byte offsets of the entries and unused spans, at most so many, that fill the bytes from an offset to their end
unfoldable pub items : ℕ → List ℕ → ℕ → Option (List ℕ)
items zero bytes at = if at == length bytes then Some [] else None
items (suc most) bytes at =
    if at == length bytes then Some []
    else if is_item bytes at then option_map (λ rest. at ∷ rest) (items most bytes (at + size_at bytes at)) else None

-- the three spans of the header, which are said to be the largest
abbrev pub best_at : List ℕ → ℕ → FreeSpan
best_at bytes k = record { offset = field_of bytes (48 + 4 * k) 2; length = field_of bytes (50 + 4 * k) 2 }

abbrev pub stated_bests : List ℕ → List FreeSpan
stated_bests bytes = best_at bytes 0 ∷ best_at bytes 1 ∷ best_at bytes 2 ∷ []

-- what the bytes state by the entries and unused spans at these offsets
unfoldable pub stated_area : ℕ → List ℕ → List ℕ → DataArea
stated_area dir bytes offsets = record {
  entries = map (entry_at dir bytes) (filter (is_entry bytes) offsets);
  places = filter (is_entry bytes) offsets;
  free = map (span_at bytes) (filter (is_span bytes) offsets);
  bests = stated_bests bytes;
}

-- the three spans of the header are the largest of these
abbrev pub has_bests : List ℕ → List FreeSpan → Bool
has_bests bytes free = are_bests free (best_at bytes 0) (best_at bytes 1) (best_at bytes 2)

-- what is stated, where the header's spans are the largest of it
abbrev pub with_bests : List ℕ → DataArea → Option DataArea
with_bests bytes area = if has_bests bytes area.free then Some area else None

-- what a data block states that has these bytes, a header among them, up to the end of its entries and unused spans
unfoldable pub area_of : ℕ → List ℕ → Option DataArea
area_of dir bytes =
    if nat_le 64 (length bytes)
    then option_and_then (λ offsets. with_bests bytes (stated_area dir bytes offsets)) (items (length bytes) bytes 64)
    else None

-- the bytes of a block up to the end of its entries and unused spans: all, or in the single-block form those before the
-- index, which its tail counts
unfoldable pub data_area : List ℕ → Bool → List ℕ
data_area block whole = if whole then part_of block 0 (4088 - 8 * field_of block 4088 4) else block

-- what a data block of a directory states, where it keeps its rules; whole in the single-block form
unfoldable pub data_of : ℕ → List ℕ → Bool → Option DataArea
data_of dir block whole = area_of dir (data_area block whole)

-- entries and unused spans that keep their rules stand at these offsets, each where the one before ends, from an offset
-- to the end of the bytes
abbrev pub Fill : List ℕ → ℕ → List ℕ → Type 0
Fill bytes at [] = at ≡ length bytes
Fill bytes at (o ∷ os) = (o ≡ at) × (is_item bytes at ≡ true) × Fill bytes (at + size_at bytes at) os

-- bytes state this: entries and unused spans fill them behind a header, and its spans are the largest of the unused ones
pub record States (dir : ℕ) (bytes : List ℕ) (area : DataArea) : Type 0 where
  pub header : 64 ≤ length bytes
  pub offsets : List ℕ
  pub fill : Fill bytes 64 offsets
  pub is : area ≡ stated_area dir bytes offsets
  pub bests : has_bests bytes area.free ≡ true

-- bytes state nothing
pub record StatesNothing (dir : ℕ) (bytes : List ℕ) : Type 0 where
  pub none : (area : DataArea) → States dir bytes area → ⊥
