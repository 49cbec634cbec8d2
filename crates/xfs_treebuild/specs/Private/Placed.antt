-- What one block of a packed tree is, by its bytes and its place in a row (chapter "Common B+trees").
use Rattle.std.specs.Prelude.{◌≡◌, ℕ, ◌+◌, ◌-◌, ◌≤◌, ◌==◌, true, if◌then◌else◌, List, length, take, drop, Option, Some, None, IsTrue, slice_get, slice_index_or}
use Rattle.xfs_disk.specs.Shares.{share_of, first_of_share}
use Rattle.xfs_word.specs.Field.{field_of}
use Rattle.xfs_word.specs.Seal.{is_sealed}
use Rattle.xfs_geom.specs.Volumes.{Volume}
use Rattle.xfs_tree.specs.declared.layout.Layout.{Layout}
use Rattle.xfs_tree.specs.declared.seats.Seat.{Seat}
use Rattle.xfs_tree.specs.Shape.{Shape}
use Rattle.xfs_tree.specs.Blocks.{level_of, count_of, left_of, right_of, capacity, each_of, records_of, children_of}
use Rattle.xfs_tree.specs.Rules.{block_seal, is_sibling, low_of, high_of}
use Rattle.xfs_treebuild.specs.Packing.{block_of_part, lsn_of}
use Rattle.xfs_treebuild.specs.Exact.{IsExact}

-- the neighbours of the block at place i of a row
abbrev pub left_in : List ℕ → ℕ → Option ℕ
left_in row i = if i == 0 then None else slice_get row (i - 1)

abbrev pub right_in : List ℕ → ℕ → Option ℕ
right_in row i = slice_get row (i + 1)

-- the items that block i of m takes
abbrev pub share_in : {A : Type 0} → List A → ℕ → ℕ → List A
share_in items m i = take (share_of (length items) m i) (drop (first_of_share (length items) m i) items)

-- the block has the header of a block of the level at place i of a row, with no log sequence number and
-- with zeros where a long header has no field, and is sealed
pub record IsHeaded (v : Volume) (l : Layout) (owner level : ℕ) (row : List ℕ) (i : ℕ) (block : List ℕ) : Type 0 where
  pub sealed : IsTrue (is_sealed (block_seal v l owner (slice_index_or row i 0)) block)
  pub at_level : level_of block ≡ level
  pub at_lsn : lsn_of l block ≡ 0
  pub at_pad : l.long ≡ true → field_of block 68 4 ≡ 0
  pub at_left : IsTrue (is_sibling v l owner (left_in row i) (left_of l block))
  pub at_right : IsTrue (is_sibling v l owner (right_in row i) (right_of l block))

module _ {R K : Type 0} (s : Shape R K) where
  -- a block by its place and its keys
  abbrev pub seat_of : ℕ → ℕ → List ℕ → Seat K
  seat_of level place block = record {
    place = place;
    low = low_of s level block;
    high = if s.layout.high then high_of s level block else None;
  }

  -- the blocks of a row, which stand in a run of bytes from a number on
  abbrev pub seats_in : ℕ → List ℕ → ℕ → List ℕ → List (Seat K)
  seats_in level row first part =
      each_of (length row) (λ j. seat_of level (slice_index_or row j 0) (block_of_part part (first + j)))

  -- there is a key, and it can be put
  abbrev pub IsKey : Option K → Type 0
  IsKey None = ⊥
  IsKey (Some key) = IsTrue (s.fits_key key)

  -- a block of a level whose keys a node can state
  pub record IsChild (level : ℕ) (block : List ℕ) : Type 0 where
    pub full : count_of block ≤ capacity s.layout level
    pub low : IsKey (low_of s level block)
    pub high : s.layout.high ≡ true → IsKey (high_of s level block)

module _ {R K : Type 0} (s : Shape R K) (v : Volume) where
  -- leaf i of the row that has these records, as they are read
  pub record IsLeafAt (records : List R) (row : List ℕ) (i : ℕ) (block : List ℕ) : Type 0 where
    pub headed : IsHeaded v s.layout s.owner 0 row i block
    pub held : records_of s block ≡ share_in records (length row) i
    pub exact : IsExact s block

  -- node i of the row of a level over these blocks
  pub record IsNodeAt (level : ℕ) (seats : List (Seat K)) (row : List ℕ) (i : ℕ) (block : List ℕ) : Type 0 where
    pub headed : IsHeaded v s.layout s.owner level row i block
    pub held : children_of s v block ≡ share_in seats (length row) i
    pub exact : IsExact s block
