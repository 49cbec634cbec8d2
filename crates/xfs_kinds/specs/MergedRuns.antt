-- Runs of blocks with their owners, joined where they follow each other (chapter "Reverse-Mapping B+tree").
use Rattle.std.specs.Prelude.{ℕ, Bool, false, not, ◌+◌, ◌-◌, ◌^◌, ◌≤◌, ◌<◌, ◌&&◌, ◌||◌, ◌==◌, ◌≡◌, if◌then◌else◌, List, [], ◌∷◌, Option, Some, None}
use Rattle.xfs_disk.specs.Lists.{is_in_range}
use Rattle.xfs_geom.specs.declared.records.Run.{Run}
use Rattle.xfs_kinds.specs.OffsetWords.{offset_in_fork, flags_of, is_file_data}

-- the runs ascend, no two have a block in common, and they end below 2^63; the first begins at low or behind
abbrev pub AreRuns : ℕ → List Run → Type 0
AreRuns low [] = Unit {0}
AreRuns low (r ∷ rest) = (low ≤ r.start) × (r.start + r.count < 2 ^ 63) × AreRuns (r.start + r.count) rest

-- the offsets follow, or they say nothing
abbrev pub offsets_follow : Run → Run → Bool
offsets_follow x y = not (is_file_data x.owner x.offset_word) || offset_in_fork x.offset_word + x.count == offset_in_fork y.offset_word

-- the second run goes on where the first ends, for the same owner and with the same flags
abbrev pub joins : Run → Run → Bool
joins x y = x.start + x.count == y.start && x.owner == y.owner && flags_of x.offset_word == flags_of y.offset_word && offsets_follow x y

-- the run with as many more blocks
abbrev pub longer : Run → ℕ → Run
longer r count = record r { count = r.count + count }

-- a run before all of the runs: joined with the first of them where that goes on
abbrev pub with_run : Run → List Run → List Run
with_run x [] = x ∷ []
with_run x (y ∷ rest) = if joins x y then longer x y.count ∷ rest else (x ∷ y ∷ rest)

-- the runs, with those joined that go on where the one before ends
unfoldable pub merged : List Run → List Run
merged [] = []
merged (x ∷ rest) = with_run x (merged rest)

-- no run goes on where the one before it ends
abbrev pub NoneJoin : List Run → Type 0
NoneJoin [] = Unit {0}
NoneJoin (x ∷ []) = Unit {0}
NoneJoin (x ∷ y ∷ rest) = (joins x y ≡ false) × NoneJoin (y ∷ rest)

-- runs of other blocks than those of file data have no offset
abbrev pub OffsetsAreOfData : List Run → Type 0
OffsetsAreOfData [] = Unit {0}
OffsetsAreOfData (r ∷ rest) = (is_file_data r.owner r.offset_word ≡ false → offset_in_fork r.offset_word ≡ 0) × OffsetsAreOfData rest

-- the offset word of a block of the run: the offset of file data goes up with the block
abbrev pub offset_word_at : Run → ℕ → ℕ
offset_word_at r block = if is_file_data r.owner r.offset_word then r.offset_word + (block - r.start) else r.offset_word

-- the owner and the offset word that the runs give a block
abbrev pub held_at : List Run → ℕ → Option (ℕ × ℕ)
held_at [] block = None
held_at (r ∷ rest) block = if is_in_range r.start r.count block then Some (r.owner, offset_word_at r block) else held_at rest block
