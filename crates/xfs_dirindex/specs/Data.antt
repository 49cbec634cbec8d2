-- What the data blocks of a directory state all together (chapter "Directories").
use Rattle.std.specs.Prelude.{ℕ, Bool, true, false, ◌+◌, ◌*◌, ◌/◌, ◌==◌, ◌&&◌, ◌||◌, not, max, if◌then◌else◌, List, [], ◌∷◌, map, filter, length, slice_index, is_some, unwrap_or}
use Rattle.std.specs.List.{list_all, list_any, flat_map}
use Rattle.xfs_word.specs.Field.{field_of}
use Rattle.xfs_word.specs.Hash.{hash_of}
use Rattle.xfs_dirdata.specs.Data.{DataArea, data_of}
use Rattle.xfs_dirdata.specs.declared.records.EntryRec.{EntryRec}
use Rattle.xfs_dirdata.specs.declared.records.FreeSpan.{FreeSpan}
use Rattle.xfs_dirindex.specs.declared.pairs.Pair.{Pair}
use Rattle.xfs_dirindex.specs.declared.data.Best.{Best}
use Rattle.xfs_dirindex.specs.Mapped.{Mapped, is_data}

-- a name is "." or ".."
unfoldable pub is_self : List ℕ → Bool
is_self name = length name == 1 && slice_index name 0 == 46

unfoldable pub is_parent_name : List ℕ → Bool
is_parent_name name = length name == 2 && slice_index name 0 == 46 && slice_index name 1 == 46

-- an entry has one of these two names
unfoldable pub is_dots : EntryRec → Bool
is_dots e = is_self e.name || is_parent_name e.name

-- no entry has
abbrev pub have_no_dots : List EntryRec → Bool
have_no_dots entries = not (list_any is_dots entries)

-- the first entry is that of the directory itself, the second that of its parent, and no other has their names
abbrev pub begin_with_dots : ℕ → List EntryRec → Bool
begin_with_dots dir [] = false
begin_with_dots dir (a ∷ []) = false
begin_with_dots dir (a ∷ b ∷ rest) = is_self a.name && a.ino == dir && is_parent_name b.name && have_no_dots rest

-- the first two entries stand right behind the header, at bytes 64 and 80
abbrev pub stand_first : List ℕ → Bool
stand_first [] = false
stand_first (a ∷ []) = false
stand_first (a ∷ b ∷ rest) = a == 64 && b == 80

-- the magic number with which a data block begins; whole in the single-block form
abbrev pub magic_of : Bool → ℕ
magic_of whole = if whole then 0x58444233 else 0x58444433

-- what a data block states; nothing where it breaks a rule
abbrev pub no_area : DataArea
no_area = record { entries = []; places = []; free = []; bests = [] }

unfoldable pub area_in : ℕ → Bool → Mapped → DataArea
area_in dir whole m = unwrap_or (data_of dir m.bytes whole) no_area

-- it begins with its magic number and keeps the rules of data blocks
unfoldable pub is_sound_data : ℕ → Bool → Mapped → Bool
is_sound_data dir whole m = field_of m.bytes 0 4 == magic_of whole && is_some (data_of dir m.bytes whole)

-- the first block of a directory stands at file block 0, and its first entries, at their places, are those of the directory and its parent
unfoldable pub is_first_block : ℕ → Bool → Mapped → Bool
is_first_block dir whole m =
    m.offset == 0 && is_sound_data dir whole m && begin_with_dots dir (area_in dir whole m).entries && stand_first (area_in dir whole m).places

-- a later one has no such entry, if it is a data block
unfoldable pub is_later : ℕ → Mapped → Bool
is_later dir m = if is_data m then is_sound_data dir false m && have_no_dots (area_in dir false m).entries else true

-- the data blocks are sound
abbrev pub are_data : ℕ → List Mapped → Bool
are_data dir [] = false
are_data dir (m ∷ ms) = is_first_block dir false m && list_all (is_later dir) ms

-- the address of what stands at a byte offset of a file block: its offset in the file, in units of 8 bytes
abbrev pub entry_address : ℕ → ℕ → ℕ
entry_address offset place = (offset * 4096 + place) / 8

-- the pair that is due for an entry at a byte offset in a file block, and those for entries at their byte offsets
abbrev pub due_pair : ℕ → EntryRec → ℕ → Pair
due_pair offset e place = record { hash = hash_of e.name; address = entry_address offset place }

abbrev pub due_pairs : ℕ → List EntryRec → List ℕ → List Pair
due_pairs offset [] places = []
due_pairs offset (e ∷ es) [] = []
due_pairs offset (e ∷ es) (place ∷ places) = due_pair offset e place ∷ due_pairs offset es places

-- the pairs that are due for a data block, and for all
unfoldable pub pairs_in : ℕ → Bool → Mapped → List Pair
pairs_in dir whole m = due_pairs m.offset (area_in dir whole m).entries (area_in dir whole m).places

unfoldable pub all_pairs : ℕ → List Mapped → List Pair
all_pairs dir ms = flat_map (pairs_in dir false) (filter is_data ms)

-- how many bytes the longest of some unused spans has
abbrev pub longest_span : List FreeSpan → ℕ
longest_span [] = 0
longest_span (s ∷ ss) = max s.length (longest_span ss)

-- the longest unused span of a data block, with its file block, and those of all
unfoldable pub best_in : ℕ → Bool → Mapped → Best
best_in dir whole m = record { offset = m.offset; length = longest_span (area_in dir whole m).free }

unfoldable pub all_bests : ℕ → List Mapped → List Best
all_bests dir ms = map (best_in dir false) (filter is_data ms)
