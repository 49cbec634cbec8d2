-- What a tree reads as: its records and its blocks, or the first block that breaks a rule, by level from the root and then
-- from the left (chapter "Common B+trees").
use Rattle.std.specs.Prelude.{ℕ, zero, suc, ◌+◌, ◌-◌, ◌==◌, if◌then◌else◌, List, [], ◌∷◌, ◌++◌, map, Option, Some, None, Result, Ok, Err}
use Rattle.std.specs.List.{flat_map}
use Rattle.xfs_geom.specs.Features.{or_else}
use Rattle.xfs_disk.specs.Blocks.{Image, bytes_of_block}
use Rattle.xfs_geom.specs.Volumes.{Volume}
use Rattle.xfs_tree.specs.declared.seats.Seat.{Seat}
use Rattle.xfs_tree.specs.declared.unread.Unread.{Unread}
use Rattle.xfs_tree.specs.Shape.{Shape}
use Rattle.xfs_tree.specs.Blocks.{records_of, children_of}
use Rattle.xfs_tree.specs.Rules.{last_of, block_fault, place_fault}

-- a root, which no parent states
abbrev pub root_seat : {K : Type 0} → ℕ → Seat K
root_seat root = record { place = root; low = None; high = None }

-- the place of the first of the seats, or what is right of all
abbrev pub next_of : {K : Type 0} → Option ℕ → List (Seat K) → Option ℕ
next_of right [] = right
next_of right (seat ∷ seats) = Some seat.place

abbrev pub places_of : {K : Type 0} → List (Seat K) → List ℕ
places_of seats = map (λ seat. seat.place) seats

-- the block and the rule that it breaks, or else what comes later
abbrev pub at_block : ℕ → Option ℕ → Option Unread → Option Unread
at_block block (Some rule) later = Some (record { block = block; rule = rule })
at_block block None later = later

-- one test, then another
abbrev pub unless : {A E : Type 0} → Option E → A → Result A E
unless (Some fault) value = Err fault
unless None value = Ok value

-- what a tree holds
pub record Contents (R : Type 0) : Type 0 where
  pub records : List R
  -- block numbers, by level from the root and then from the left
  pub blocks : List ℕ

module _ {R K : Type 0} (s : Shape R K) (v : Volume) (image : Image) where
  -- the children of a block
  abbrev pub below : Seat K → List (Seat K)
  below seat = children_of s v (bytes_of_block image seat.place)

  -- the records under a block of some level
  unfoldable pub records_under : ℕ → Seat K → List R
  records_under zero seat = records_of s (bytes_of_block image seat.place)
  records_under (suc level) seat = flat_map (records_under level) (below seat)

  -- the blocks that lie so many levels under a block
  unfoldable pub blocks_under : ℕ → Seat K → List (Seat K)
  blocks_under zero seat = seat ∷ []
  blocks_under (suc depth) seat = flat_map (blocks_under depth) (below seat)

  -- the blocks of one level, under those of the top level
  abbrev pub level_row : List (Seat K) → ℕ → List (Seat K)
  level_row tops depth = flat_map (blocks_under depth) tops

  -- the blocks of the first levels
  unfoldable pub met_above : List (Seat K) → ℕ → List ℕ
  met_above tops zero = []
  met_above tops (suc depth) = met_above tops depth ++ places_of (level_row tops depth)

  -- what stands in front of a leaf that comes later
  abbrev pub behind : ℕ → Option R → Seat K → Option R
  behind level before seat = if level == 0 then last_of before (records_of s (bytes_of_block image seat.place)) else before

  -- the first rule that a block breaks
  abbrev pub rule_at : ℕ → List ℕ → Option ℕ → Option ℕ → Option R → Seat K → Option ℕ
  rule_at level met left right before seat =
      or_else (place_fault s v met seat.place) (block_fault s v level left right before seat (bytes_of_block image seat.place))

  -- the first fault of a row of blocks of one level, between their neighbours
  unfoldable pub row_fault : ℕ → List ℕ → Option ℕ → Option ℕ → Option R → List (Seat K) → Option Unread
  row_fault level met left right before [] = None
  row_fault level met left right before (seat ∷ seats) =
      at_block seat.place (rule_at level met left (next_of right seats) before seat)
      (row_fault level (met ++ seat.place ∷ []) (Some seat.place) right (behind level before seat) seats)

  -- the first fault of the first levels, where the top level is `height`
  unfoldable pub fault_above : List (Seat K) → ℕ → ℕ → Option Unread
  fault_above tops height zero = None
  fault_above tops height (suc depth) =
      or_else (fault_above tops height depth) (row_fault (height - depth) (met_above tops depth) None None None (level_row tops depth))

  -- what reads from a whole level down
  abbrev pub reading : List (Seat K) → ℕ → Result (Contents R) Unread
  reading tops height =
      unless (fault_above tops height (height + 1))
      (record { records = flat_map (records_under height) tops; blocks = met_above tops (height + 1) })
