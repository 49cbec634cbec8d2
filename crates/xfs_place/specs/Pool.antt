-- Which blocks of a volume may be given to something new.
use Rattle.std.specs.Prelude.{◌≡◌, ℕ, Bool, true, false, not, ◌+◌, ◌/◌, ◌%◌, ◌≤◌, ◌<◌, ◌&&◌, ◌==◌, nat_lt, if◌then◌else◌, List, [], ◌∷◌, length, slice_index_or, ◌^◌, Option, Some, None}
use Rattle.std.specs.List.{list_any}
use Rattle.std.specs.Option.{unwrap_or}
use Rattle.xfs_kinds.specs.Owners.{group_owner, inode_trees_owner}
use Rattle.xfs_geom.specs.Runs.{covers}
use Rattle.xfs_geom.specs.Volumes.{Volume}
use Rattle.xfs_geom.specs.Conversions.{is_fixed}
use Rattle.xfs_geom.specs.declared.records.Run.{Run}
use Rattle.xfs_place.specs.declared.uses.Use.{Use}
use Rattle.xfs_place.specs.declared.uses.Use.TheVariants.{Pool, Reserved, Claimed, ForSpace, ForInodes}

-- the block is one of the runs
unfoldable pub is_taken : List Run → ℕ → Bool
is_taken runs block = list_any (covers block) runs

-- the block stands in the list
unfoldable pub is_listed : List ℕ → ℕ → Bool
is_listed blocks block = list_any (λ b. b == block) blocks

-- what the blocks of a run are for: they are claimed, and some by an owner whose new blocks would join them
abbrev pub use_claimed_by : ℕ → Use
use_claimed_by owner = if owner == group_owner then ForSpace else (if owner == inode_trees_owner then ForInodes else Claimed)

abbrev pub use_of_run : Run → Use
use_of_run r = if nat_lt r.offset_word (2 ^ 61) then use_claimed_by r.owner else Claimed

-- what the first run that has a block makes of it
unfoldable pub use_held : List Run → ℕ → Option Use
use_held [] block = None
use_held (r ∷ rest) block = if covers block r then Some (use_of_run r) else use_held rest block

-- a block of no run is claimed where it has a fixed use; else it may be reserved; else it is of the pool, from which new blocks are
-- taken
abbrev pub use_by : Bool → Option Use → Bool → Use
use_by fixed held reserved = unwrap_or held (if fixed then Claimed else (if reserved then Reserved else Pool))

unfoldable pub use_of : Volume → List Run → List ℕ → ℕ → Use
use_of v runs reserved block = use_by (is_fixed v block) (use_held runs block) (is_listed reserved block)

-- the block is neither fixed nor one of the runs, nor reserved
unfoldable pub is_pool : Volume → List Run → List ℕ → ℕ → Bool
is_pool v runs reserved block = not (is_fixed v block) && not (is_taken runs block) && not (is_listed reserved block)

-- the block stands before the AG block from which on those of its group are spared; of a group for which none is named, no block is
abbrev pub is_unspared : Volume → List ℕ → ℕ → Bool
is_unspared v spared block = nat_lt (block % v.agblocks) (slice_index_or spared (block / v.agblocks) v.agblocks)

-- a block of the pool that is not spared
abbrev pub is_pool_unspared : Volume → List Run → List ℕ → List ℕ → ℕ → Bool
is_pool_unspared v runs reserved spared block = is_pool v runs reserved block && is_unspared v spared block

-- the runs have some blocks each, of a volume of so many blocks
abbrev pub IsRunOf : ℕ → Run → Type 0
IsRunOf blocks r = (1 ≤ r.count) × (r.start + r.count ≤ blocks)

-- the use of a block in a list of them
abbrev pub use_at : List Use → ℕ → Use
use_at uses block = slice_index_or uses block Claimed

-- a list of the uses of all blocks
pub record Shows (uses : List Use) (blocks : ℕ) (due : ℕ → Use) : Type 0 where
  pub all : length uses ≡ blocks
  pub each : (block : ℕ) → block < blocks → use_at uses block ≡ due block

-- the blocks that pass a test have a use now, the others the one that they had
pub record MarksUses (old new : List Use) (test : ℕ → Bool) (now : Use) : Type 0 where
  pub all : length new ≡ length old
  pub each : (block : ℕ) → block < length old → use_at new block ≡ (if test block then now else use_at old block)

-- the blocks of which something is said have that use now, the others the one that they had
pub record PutsUses (old new : List Use) (said : ℕ → Option Use) : Type 0 where
  pub all : length new ≡ length old
  pub each : (block : ℕ) → block < length old → use_at new block ≡ unwrap_or (said block) (use_at old block)

-- the use of a block of the pool
abbrev pub is_open : Use → Bool
is_open Pool = true
is_open Reserved = false
is_open Claimed = false
is_open ForSpace = false
is_open ForInodes = false
