-- What a packed tree is: rows of blocks, the leaves first, up to one block; what a row holds is shared out among its blocks in
-- order, and the shares differ by at most one, larger ones first (chapter "Common B+trees").
use Rattle.std.specs.Prelude.{◌≡◌, ℕ, suc, ◌+◌, ◌-◌, ◌*◌, ◌<◌, ◌==◌, Bool, true, not, ◌&&◌, if◌then◌else◌, List, [], ◌∷◌, ◌++◌, map, length, take, drop, Option, Some, None, slice_index_or}
use Rattle.std.specs.List.{flat_map, list_any}
use Rattle.xfs_disk.specs.Shares.{share_of}
use Rattle.xfs_word.specs.Field.{field_of, part_of}
use Rattle.xfs_disk.specs.Blocks.{Image, bytes_of_block}
use Rattle.xfs_geom.specs.Volumes.{Volume}
use Rattle.xfs_tree.specs.declared.layout.Layout.{Layout}
use Rattle.xfs_tree.specs.declared.seats.Seat.{Seat}
use Rattle.xfs_tree.specs.declared.unread.Unread.{Unread}
use Rattle.xfs_tree.specs.Shape.{Shape}
use Rattle.xfs_tree.specs.Blocks.{count_of, each_of, records_of, children_of}
use Rattle.xfs_tree.specs.Rules.{block_fault, low_of, high_of}
use Rattle.xfs_tree.specs.Reading.{next_of, at_block, behind}
use Rattle.xfs_treebuild.specs.Size.{rows_of}

abbrev pub shares : ℕ → ℕ → List ℕ
shares n m = each_of m (share_of n m)

-- places cut into rows of these sizes
abbrev pub rows_in : List ℕ → List ℕ → List (List ℕ)
rows_in [] places = []
rows_in (size ∷ sizes) places = take size places ∷ rows_in sizes (drop size places)

-- the rows of the blocks of a packed tree of so many records, and how many levels stand above its leaves
abbrev pub rows_at : Layout → ℕ → List ℕ → List (List ℕ)
rows_at l records places = rows_in (rows_of l.leaf_cap l.node_cap records) places

abbrev pub height_of : Layout → ℕ → ℕ
height_of l records = length (rows_of l.leaf_cap l.node_cap records) - 1

-- rows from the last to the first, joined: the root, then level by level down to the leaves
abbrev pub top_down : List (List ℕ) → List ℕ
top_down [] = []
top_down (row ∷ rows) = top_down rows ++ row

-- the root stands last
abbrev pub root_of : List ℕ → ℕ
root_of places = slice_index_or places (length places - 1) 0

-- no two of the places are one
abbrev pub are_different : List ℕ → Bool
are_different [] = true
are_different (place ∷ places) = not (list_any (λ other. other == place) places) && are_different places

-- the block of a number in a run of bytes
abbrev pub block_of_part : List ℕ → ℕ → List ℕ
block_of_part part j = part_of part (4096 * j) 4096

-- the log sequence number that a block states
abbrev pub lsn_of : Layout → List ℕ → ℕ
lsn_of l block = field_of block (if l.long then 32 else 24) 8

-- the image has the blocks of a run of bytes at these places
abbrev pub HoldsParts : Image → List ℕ → List ℕ → Type 0
HoldsParts image places part = (j : ℕ) → j < length places → bytes_of_block image (slice_index_or places j 0) ≡ block_of_part part j

module _ {R K : Type 0} (s : Shape R K) (v : Volume) (image : Image) where
  -- a block by its place and the keys of its own
  abbrev pub own_seat : ℕ → ℕ → Seat K
  own_seat level place = record {
    place = place;
    low = low_of s level (bytes_of_block image place);
    high = if s.layout.high then high_of s level (bytes_of_block image place) else None;
  }

  -- the first block of a row that breaks one of the rules 3 to 8, between its neighbours
  unfoldable pub run_fault : ℕ → Option ℕ → Option ℕ → Option R → List (Seat K) → Option Unread
  run_fault level left right before [] = None
  run_fault level left right before (seat ∷ seats) =
      at_block seat.place (block_fault s v level left (next_of right seats) before seat (bytes_of_block image seat.place))
      (run_fault level (Some seat.place) right (behind s v image level before seat) seats)

  abbrev pub own_seats : ℕ → List ℕ → List (Seat K)
  own_seats level places = map (own_seat level) places

  abbrev pub counts_at : List ℕ → List ℕ
  counts_at places = map (λ place. count_of (bytes_of_block image place)) places

  -- the leaves
  pub record AreLeaves (records : List R) (places : List ℕ) : Type 0 where
    pub sound : run_fault 0 None None None (own_seats 0 places) ≡ None
    pub held : flat_map (λ place. records_of s (bytes_of_block image place)) places ≡ records
    pub counts : counts_at places ≡ shares (length records) (length places)

  -- the nodes of a level over the blocks of the level below
  pub record AreNodes (below : List ℕ) (level : ℕ) (places : List ℕ) : Type 0 where
    pub sound : run_fault (suc level) None None None (own_seats (suc level) places) ≡ None
    pub children : flat_map (λ place. children_of s v (bytes_of_block image place)) places ≡ own_seats level below
    pub counts : counts_at places ≡ shares (length below) (length places)

  -- rows of nodes over the blocks of a level, up to one block
  unfoldable pub AreRows : List ℕ → ℕ → List (List ℕ) → Type 0
  AreRows below level [] = length below ≡ 1
  AreRows below level (places ∷ rows) = AreNodes below level places × AreRows places (suc level) rows

  unfoldable pub AreLevels : List R → List (List ℕ) → Type 0
  AreLevels records [] = ⊥
  AreLevels records (places ∷ rows) = AreLeaves records places × AreRows places 0 rows

  -- the image has the records packed at these places
  abbrev pub IsPacked : List R → List ℕ → Type 0
  IsPacked records places = AreLevels records (rows_at s.layout (length records) places)
