-- Many trees that are read together, level by level, in rounds of blocks (chapter "Common B+trees").
use Rattle.std.specs.Prelude.{◌≡◌, ℕ, zero, suc, ◌+◌, ◌-◌, ◌≤◌, ◌<◌, ◌==◌, ◌&&◌, ◌||◌, not, nat_le, Bool, true, false, if◌then◌else◌, List, [], ◌∷◌, ◌++◌, map, drop, length, Option, Some, None, Result, Ok, Err, IfOk, slice_index_or}
use Rattle.std.specs.List.{flat_map, list_any}
use Rattle.xfs_disk.specs.Blocks.{Image, bytes_of_block}
use Rattle.xfs_geom.specs.Volumes.{Volume}
use Rattle.xfs_forest.specs.declared.plants.Plant.{Plant}
use Rattle.xfs_forest.specs.declared.cells.Cell.{Cell}
use Rattle.xfs_tree.specs.declared.stepping.Found.{Found}
use Rattle.xfs_tree.specs.declared.stepping.Spot.{Spot}
use Rattle.xfs_forest.specs.declared.growing.Growing.{Growing}
use Rattle.xfs_tree.specs.declared.seats.Seat.{Seat}
use Rattle.xfs_tree.specs.declared.tree.Tree.{Tree}
use Rattle.xfs_tree.specs.declared.unread.Unread.{Unread}
use Rattle.xfs_tree.specs.Alone.{IsFound}
use Rattle.xfs_tree.specs.Answers.{IsMet}
use Rattle.xfs_tree.specs.Shape.{Shape}
use Rattle.xfs_tree.specs.Blocks.{records_of}
use Rattle.xfs_tree.specs.Rules.{last_of, place_fault}
use Rattle.xfs_tree.specs.Reading.{Contents, next_of, places_of, below, row_fault, reading}

-- a fault, or else what comes then
abbrev pub on_whole : {A E : Type 0} → Option E → Result A E → Result A E
on_whole (Some fault) later = Err fault
on_whole None later = later

-- blocks of a round: their seats, and their numbers
abbrev pub seats_in : {K : Type 0} → List (Spot K) → List (Seat K)
seats_in spots = map (λ spot. spot.seat) spots

abbrev pub places_in : {K : Type 0} → List (Spot K) → List ℕ
places_in spots = map (λ spot. spot.seat.place) spots

-- the last of them, or what stands on their left
abbrev pub last_place : {K : Type 0} → Option ℕ → List (Spot K) → Option ℕ
last_place left [] = left
last_place left (spot ∷ spots) = last_place (Some spot.seat.place) spots

-- those of one tree
abbrev pub of_tree : {K : Type 0} → ℕ → List (Spot K) → List (Spot K)
of_tree t [] = []
of_tree t (spot ∷ spots) = if spot.tree == t then spot ∷ of_tree t spots else of_tree t spots

abbrev pub spots_of : {R K : Type 0} → List (Cell R K) → List (Spot K)
spots_of cells = map (λ cell. cell.spot) cells

module _ {R K : Type 0} (s : Shape R K) (v : Volume) where
  -- blocks that were taken into a round and are not judged yet: they keep rules 1 and 2 behind those met, and stand side by side in front of the rest
  abbrev pub InFlight : ℕ → List ℕ → Option ℕ → List (Spot K) → List (Seat K) → Type 0
  InFlight level met left [] rest = Unit {0}
  InFlight level met left (spot ∷ spots) rest =
      (spot.level ≡ level)
      × (place_fault s v met spot.seat.place ≡ None)
      × (spot.left ≡ left)
      × (spot.right ≡ next_of None (seats_in spots ++ rest))
      × InFlight level (met ++ spot.seat.place ∷ []) (Some spot.seat.place) spots rest

module _ {R K : Type 0} (s : Shape R K) (v : Volume) (image : Image) where
  -- what a tree reads as, from where its reading stands: in a level, the blocks met, the left neighbour and the record in front of the rest of
  -- the row, and what was found: blocks of the level below, or records
  unfoldable pub resume : ℕ → List ℕ → Option ℕ → Option R → List (Seat K) → List (Seat K) → List R → Result (Contents R) Unread
  resume zero met left before rest next records =
      on_whole (row_fault s v image 0 met left None before rest)
      (Ok (record { records = records ++ flat_map (λ seat. records_of s (bytes_of_block image seat.place)) rest; blocks = met ++ places_of rest }))
  resume (suc level) met left before rest next records =
      on_whole (row_fault s v image (suc level) met left None before rest)
      (resume level (met ++ places_of rest) None None (next ++ flat_map (below s v image) rest) [] records)

  -- a tree of which no block is broken so far, with blocks in flight
  pub record IsLive (whole : Result (Contents R) Unread) (level : ℕ) (blocks : List ℕ) (side : Option ℕ) (before : Option R) (rest next : List (Seat K)) (records : List R)
      (spots : List (Spot K)) : Type 0 where
    pub met : List ℕ
    pub left : Option ℕ
    pub blocks_are : blocks ≡ met ++ places_in spots
    pub side_is : side ≡ last_place left spots
    pub flight : InFlight s v level met left spots rest
    pub leads : resume level met left before (seats_in spots ++ rest) next records ≡ whole

-- a tree reads as its fault, or what is known of it holds
abbrev pub GrowsBy : {R : Type 0} → Option Unread → Result (Contents R) Unread → Type 0 → Type 0
GrowsBy (Some fault) whole live = whole ≡ Err fault
GrowsBy None whole live = live

module _ {R K : Type 0} (s : Shape R K) (v : Volume) (image : Image) where
  -- where the reading of a tree stands, with blocks in flight, it leads to what the whole tree reads as
  abbrev pub IsGrowing : Result (Contents R) Unread → Growing R K → List (Spot K) → Type 0
  IsGrowing whole tree spots = GrowsBy tree.fault whole
      (IsLive s v image whole tree.level tree.met.blocks.items tree.side tree.before (drop tree.at tree.row.items) tree.next.items tree.records.items spots)

-- a tree in whose row nothing was taken: what is known of it stays, but what was found, or that it has a fault now
pub record IsKept {R K : Type 0} (old new : Growing R K) : Type 0 where
  pub level : new.level ≡ old.level
  pub row : new.row.items ≡ old.row.items
  pub at : new.at ≡ old.at
  pub met : new.met ≡ old.met
  pub live : new.fault ≡ None → old.fault ≡ None

-- a tree with what was found in one block more
pub record IsJoined {R K : Type 0} (old new : Growing R K) (found : Found R K) : Type 0 where
  pub kept : IsKept old new
  pub side : new.side ≡ old.side
  pub fault : new.fault ≡ old.fault
  pub before : new.before ≡ last_of old.before found.records.items
  pub next : new.next.items ≡ old.next.items ++ found.children.items
  pub records : new.records.items ≡ old.records.items ++ found.records.items

-- a block of a row as it stands in a round
abbrev pub spot_in : {R K : Type 0} → ℕ → ℕ → Growing R K → Seat K → Spot K
spot_in number at tree seat = record {
  tree = number;
  at = at;
  level = tree.level;
  seat = seat;
  left = tree.side;
  right = next_of None (drop (tree.at + 1) tree.row.items);
}

-- a tree of whose row the next block was taken
pub record IsTaken {R K : Type 0} (number : ℕ) (seat : Seat K) (old new : Growing R K) (before after : List (Cell R K)) : Type 0 where
  pub level : new.level ≡ old.level
  pub row : new.row.items ≡ old.row.items
  pub at : new.at ≡ old.at + 1
  pub side : new.side ≡ Some seat.place
  pub blocks : new.met.blocks.items ≡ old.met.blocks.items ++ seat.place ∷ []
  pub met : IsMet new.met
  pub record_before : new.before ≡ old.before
  pub next : new.next.items ≡ old.next.items
  pub records : new.records.items ≡ old.records.items
  pub fault : new.fault ≡ old.fault
  pub cell : Cell R K
  pub spot : cell.spot ≡ spot_in number (length before) old seat
  pub added : after ≡ before ++ cell ∷ []

-- the next block of a tree's row; where it breaks no rule by its place, it lies in the volume and was not met
pub record IsNext {R K : Type 0} (end : ℕ) (tree : Growing R K) (seat : Seat K) (rule : Option ℕ) : Type 0 where
  pub more : tree.at < length tree.row.items
  pub next : drop tree.at tree.row.items ≡ seat ∷ drop (tree.at + 1) tree.row.items
  pub inside : rule ≡ None → seat.place < end
  pub fresh : rule ≡ None → list_any (λ other. other == seat.place) tree.met.blocks.items ≡ false

-- a tree of whose row one block was passed
pub record IsPassed {R K : Type 0} (old new : Growing R K) : Type 0 where
  pub level : new.level ≡ old.level
  pub row : new.row.items ≡ old.row.items
  pub at : new.at ≡ old.at + 1
  pub met : IsMet new.met
  pub live : new.fault ≡ None → old.fault ≡ None

-- a tree of which blocks may have been taken
pub record IsOnward {R K : Type 0} (old new : Growing R K) : Type 0 where
  pub level : new.level ≡ old.level
  pub row : new.row.items ≡ old.row.items
  pub at : old.at ≤ new.at
  pub live : new.fault ≡ None → old.fault ≡ None

-- of each of the first trees; of each tree, before and after
abbrev pub Each : {A : Type 0} → (A → Type 0) → ℕ → List A → Type 0
Each P n xs = (i : ℕ) (d : _) → i < n → P (slice_index_or xs i d)

abbrev pub EachBoth : {A : Type 0} → (A → A → Type 0) → List A → List A → Type 0
EachBoth Q olds news = (i : ℕ) (d : _) → i < length olds → Q (slice_index_or olds i d) (slice_index_or news i d)

-- the set of a tree has just the blocks met
abbrev pub KnowsMet : {R K : Type 0} → Growing R K → Type 0
KnowsMet tree = IsMet tree.met

-- all blocks of the row were taken; the level is not above this one
abbrev pub IsThrough : {R K : Type 0} → Growing R K → Type 0
IsThrough tree = tree.fault ≡ None → length tree.row.items ≤ tree.at

abbrev pub IsLow : {R K : Type 0} → ℕ → Growing R K → Type 0
IsLow n tree = tree.fault ≡ None → tree.level ≤ n

-- how many blocks of the first tree's row are left
abbrev pub room_of : {R K : Type 0} → List (Growing R K) → ℕ
room_of [] = 0
room_of (tree ∷ trees) = length tree.row.items - tree.at

-- a block of a round of so many trees: it stands at its place, and lies in the volume
pub record IsSpotAt {K : Type 0} (trees end i : ℕ) (spot : Spot K) : Type 0 where
  pub tree : spot.tree < trees
  pub at : spot.at ≡ i
  pub volume : spot.seat.place < end

abbrev pub AreListed : {R K : Type 0} → ℕ → ℕ → List (Cell R K) → Type 0
AreListed trees end cells = (i : ℕ) (d : Cell _ _) → i < length cells → IsSpotAt trees end i (slice_index_or cells i d).spot

-- a block can be judged
pub record IsInRound {P R K : Type 0} (plants : List (Plant P R K)) (bank : Image) (end : ℕ) (cell : Cell R K) : Type 0 where
  pub tree : cell.spot.tree < length plants
  pub at : cell.spot.at < length bank
  pub volume : cell.spot.seat.place < end

-- the numbers of blocks of a round
abbrev pub cell_places : {R K : Type 0} → List (Cell R K) → List ℕ
cell_places cells = map (λ cell. cell.spot.seat.place) cells

-- so many trees, whose sets of blocks met are right, and a round of blocks that are theirs
pub record IsForest {R K : Type 0} (n end : ℕ) (trees : List (Growing R K)) (cells : List (Cell R K)) : Type 0 where
  pub count : length trees ≡ n
  pub met : Each KnowsMet n trees
  pub listed : AreListed n end cells

-- a tree of which the level below may have begun
pub record IsDescended {R K : Type 0} (old new : Growing R K) : Type 0 where
  pub low : (n : ℕ) → IsLow (n + 1) old → IsLow n new
  pub met : new.met ≡ old.met
  pub grows : (s : Shape R K) (v : Volume) (image : Image) (whole : Result (Contents R) Unread) → IsGrowing s v image whole old [] → IsGrowing s v image whole new []

-- a tree that was read to its end
pub record IsDone {R K : Type 0} (tree : Growing R K) : Type 0 where
  pub through : IsThrough tree
  pub low : IsLow 0 tree

-- what a tree is found to be, as contents
abbrev pub contents_of : {P R K : Type 0} → Result (Tree P R K) Unread → Result (Contents R) Unread
contents_of (Ok tree) = Ok (record { records = tree.records.items; blocks = tree.blocks.items })
contents_of (Err fault) = Err fault

module _ {P R K : Type 0} (shape : P → Shape R K) (v : Volume) where
  -- a block was judged by its bytes in a bank
  pub record IsJudged (plants : List (Plant P R K)) (bank : Image) (old new : Cell R K) : Type 0 where
    pub spot : new.spot ≡ old.spot
    pub found : (p : Plant P R K) → IfOk new.found (IsFound (shape (slice_index_or plants new.spot.tree p).kind) v new.spot (slice_index_or bank new.spot.at []))

  module _ (image : Image) where
    -- what was found in a block is so by its bytes in an image
    abbrev pub IsFoundIn : List (Plant P R K) → Cell R K → Type 0
    IsFoundIn plants cell = (p : Plant P R K) → IfOk cell.found (IsFound (shape (slice_index_or plants cell.spot.tree p).kind) v cell.spot (bytes_of_block image cell.spot.seat.place))

    -- in each of some blocks
    abbrev pub AreFound : List (Plant P R K) → List (Cell R K) → Type 0
    AreFound plants cells = (i : ℕ) (d : Cell R K) → i < length cells → IsFoundIn plants (slice_index_or cells i d)

    -- what a tree reads as
    abbrev pub reads_as : Plant P R K → Result (Contents R) Unread
    reads_as plant = reading (shape plant.kind) v image plant.tops.items plant.height

    -- each tree leads to what it reads as, with its blocks in flight
    abbrev pub AreGrowing : List (Plant P R K) → List (Growing R K) → List (Spot K) → Type 0
    AreGrowing plants trees spots = (t : ℕ) (p : Plant P R K) (d : Growing R K) → t < length plants →
        IsGrowing (shape (slice_index_or plants t p).kind) v image (reads_as (slice_index_or plants t p)) (slice_index_or trees t d) (of_tree t spots)
