-- Which runs of blocks of the pool are found.
use Rattle.std.specs.Prelude.{◌≡◌, ℕ, Bool, true, false, ◌+◌, ◌-◌, ◌/◌, ◌%◌, ◌^◌, ◌≤◌, ◌<◌, ◌&&◌, min, nat_le, if◌then◌else◌, List, ◌++◌, length, Option, Some, None, slice_index, slice_index_or}
use Rattle.xfs_disk.specs.Lists.{is_in_range}
use Rattle.xfs_geom.specs.Volumes.{Volume}
use Rattle.xfs_geom.specs.declared.records.Run.{Run}
use Rattle.xfs_place.specs.declared.greatest.Greatest.{Greatest}
use Rattle.xfs_place.specs.declared.open_blocks.OpenBlocks.{OpenBlocks}
use Rattle.xfs_place.specs.declared.open_blocks.Piece.{Piece}
use Rattle.xfs_place.specs.Choice.{IsLeast, IsNone, in_pool}
use Rattle.xfs_place.specs.declared.uses.Use.{Use}
use Rattle.xfs_place.specs.Greatest.{AreGreatest, leaves_of}
use Rattle.xfs_place.specs.Objects.{most_blocks, spared_in}
use Rattle.xfs_place.specs.Pool.{is_pool_unspared}

-- the block is of one of the rows, which begin at these blocks and have so many each
abbrev pub InRow : List ℕ → (ℕ → ℕ) → ℕ → Type 0
InRow starts count b = (k : ℕ) × (k < length starts) × (slice_index starts k ≤ b) × (b < slice_index starts k + count k)

-- a block stands between each row and the next
pub record AreRowsApart (starts : List ℕ) (count : ℕ → ℕ) : Type 0 where
  pub apart : (k : ℕ) → k + 1 < length starts → slice_index starts k + count k < slice_index starts (k + 1)

-- so many blocks from a block on are all free
abbrev pub AllOpen : (ℕ → Type 0) → ℕ → ℕ → Type 0
AllOpen free start blocks = (b : ℕ) → start ≤ b → b < start + blocks → free b

abbrev pub HasRun : (ℕ → Type 0) → ℕ → ℕ → Type 0
HasRun free blocks start = (blocks ≤ most_blocks) × AllOpen free start blocks

-- free is what is of the pool and not spared, but for the blocks of each group before AG block `from`
pub record Opens (v : Volume) (kept : List Run) (reserved : List ℕ) (from : ℕ) (spared : List ℕ) (free : ℕ → Type 0) : Type 0 where
  pub inside : (b : ℕ) → free b → b < v.dblocks
  pub passes : (b : ℕ) → free b → (is_pool_unspared v kept reserved spared b && nat_le from (b % v.agblocks)) ≡ true
  pub all : (b : ℕ) → b < v.dblocks → (is_pool_unspared v kept reserved spared b && nat_le from (b % v.agblocks)) ≡ true → free b

-- what is free now is what was, but for so many blocks from a block on
pub record Takes (old new : ℕ → Type 0) (start blocks : ℕ) : Type 0 where
  pub was : (b : ℕ) → new b → old b
  pub other : (b : ℕ) → new b → is_in_range start blocks b ≡ false
  pub rest : (b : ℕ) → old b → is_in_range start blocks b ≡ false → new b

-- a function that finds the lowest run of each number of free blocks
pub record Finds (free : ℕ → Type 0) (low : ℕ → Option ℕ) : Type 0 where
  pub there : (n s : ℕ) → 1 ≤ n → IsLeast (HasRun free n) s → low n ≡ Some s
  pub none : (n : ℕ) → 1 ≤ n → IsNone (HasRun free n) → low n ≡ None

-- the lowest run of free blocks of those that are the longest of at most so many blocks
pub record IsLongest (free : ℕ → Type 0) (most start blocks : ℕ) : Type 0 where
  pub some : 1 ≤ blocks
  pub few : blocks ≤ most
  pub least : IsLeast (HasRun free blocks) start
  pub longer : (n : ℕ) → blocks < n → n ≤ most → IsNone (HasRun free n)

-- there is none of any number of blocks up to this one
pub record HasNone (free : ℕ → Type 0) (most : ℕ) : Type 0 where
  pub each : (n : ℕ) → 1 ≤ n → n ≤ most → IsNone (HasRun free n)

abbrev pub pair_of_piece : Option Piece → Option (ℕ × ℕ)
pair_of_piece None = None
pair_of_piece (Some piece) = Some (piece.start, piece.blocks)

-- how many blocks of a row are not spared: those before the AG block from which on the blocks of its group are
abbrev pub unspared_part : Volume → List ℕ → ℕ → ℕ → ℕ
unspared_part v spared start count = min count (slice_index_or spared (start / v.agblocks) v.agblocks - start % v.agblocks)

-- the rows of all open blocks of a list of uses
pub record AreOpenRows (uses : List Use) (starts counts : List ℕ) : Type 0 where
  pub all : length counts ≡ length starts
  pub small : (k : ℕ) → k < length starts → slice_index starts k + slice_index counts k ≤ length uses
  pub rows : AreRowsApart starts (λ k. slice_index counts k)
  pub listed : (b : ℕ) → in_pool uses b ≡ true → InRow starts (λ k. slice_index counts k) b
  pub free : (b : ℕ) → InRow starts (λ k. slice_index counts k) b → in_pool uses b ≡ true

-- the blocks of rows with the greatest numbers of them
pub record AreCounts (starts : List ℕ) (g : Greatest) : Type 0 where
  pub greatest : AreGreatest g.nodes.items g.leaves g.depth
  pub few : length starts ≤ g.leaves
  pub none : (k : ℕ) → length starts ≤ k → k < g.leaves → leaves_of g k ≡ 0
  pub rows : AreRowsApart starts (leaves_of g)
  pub small : (k : ℕ) → k < length starts → slice_index starts k + leaves_of g k < 2 ^ 32

-- a piece is the front of the row of its number
pub record IsFront (starts : List ℕ) (count : ℕ → ℕ) (piece : Piece) : Type 0 where
  pub inside : piece.row < length starts
  pub start' : slice_index starts piece.row ≡ piece.start
  pub some : 1 ≤ piece.blocks
  pub fits : piece.blocks ≤ count piece.row

-- the numbers of blocks of all rows, or of those that are not spared
abbrev pub counts_in : Bool → OpenBlocks → Greatest
counts_in all pool = if all then pool.counts else pool.unspared

-- all rows, and what is not spared of them
pub record HasRows (pool : OpenBlocks) : Type 0 where
  pub each : (all : Bool) → AreCounts pool.starts.items (counts_in all pool)
  pub under : (k : ℕ) → k < length pool.starts.items → leaves_of pool.unspared k ≤ leaves_of pool.counts k

-- the block is free, or free and not spared
abbrev pub free_in : Bool → OpenBlocks → ℕ → Type 0
free_in all pool b = InRow pool.starts.items (leaves_of (counts_in all pool)) b

-- a list goes on where another one ends
abbrev pub IsFrontOf : {X : Type 0} → List X → List X → Type 0
IsFrontOf {X} old new = (rest : List X) × (new ≡ old ++ rest)

-- what is free is what is left of the pool
pub record IsOpen (v : Volume) (kept : List Run) (reserved : List ℕ) (from : ℕ) (spared : List ℕ) (pool : OpenBlocks) : Type 0 where
  pub rows' : HasRows pool
  pub opens : (all : Bool) → Opens v kept reserved from (spared_in all spared) (free_in all pool)
