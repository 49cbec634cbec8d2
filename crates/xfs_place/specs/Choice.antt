-- How many blocks of its pool a group gives to its trees and its free list (chapters "AG Free Space Management" and "Reverse-Mapping
-- B+tree").
use Rattle.std.specs.Prelude.{ℕ, zero, suc, Bool, true, false, not, ◌+◌, ◌-◌, ◌*◌, ◌≤◌, ◌<◌, ◌&&◌, ◌||◌, ◌==◌, ◌≡◌, ◌⊎◌, nat_le, nat_lt, if◌then◌else◌, List, length, Option, Some, None, slice_index}
use Rattle.std.specs.List.{sum}
use Rattle.std.specs.Option.{MatchOption, is_some}
use Rattle.xfs_kinds.specs.Owners.{inode_trees_owner, group_owner}
use Rattle.xfs_treebuild.specs.Size.{rows_of}
use Rattle.xfs_kinds.specs.OffsetWords.{offset_in_fork, flags_of, is_file_data}
use Rattle.xfs_geom.specs.declared.records.Run.{Run}
use Rattle.xfs_kinds.specs.MergedRuns.{held_at}
use Rattle.xfs_place.specs.declared.lowest.Lowest.{Lowest}
use Rattle.xfs_place.specs.declared.uses.Use.{Use}
use Rattle.xfs_place.specs.declared.uses.Use.TheVariants.{Pool, Reserved, Claimed, ForSpace, ForInodes}
use Rattle.xfs_place.specs.Pool.{is_open, use_at}

-- the sum of a number for each number below n
unfoldable pub total : (ℕ → ℕ) → ℕ → ℕ
total of zero = 0
total of (suc n) = total of n + of n

abbrev pub one_if : Bool → ℕ
one_if test = if test then 1 else 0

-- how many of the numbers below n pass
abbrev pub how_many : (ℕ → Bool) → ℕ → ℕ
how_many test n = total (λ b. one_if (test b)) n

-- a number is the least that has a property, or the greatest, or none has it
abbrev pub IsLeast : (ℕ → Type 0) → ℕ → Type 0
IsLeast P n = P n × ((k : ℕ) → k < n → P k → ⊥)

abbrev pub IsGreatest : (ℕ → Type 0) → ℕ → Type 0
IsGreatest P n = P n × ((k : ℕ) → n < k → P k → ⊥)

abbrev pub IsNone : (ℕ → Type 0) → Type 0
IsNone P = (k : ℕ) → P k → ⊥

-- the use of a block that becomes free
abbrev pub is_spare : Use → Bool
is_spare Reserved = true
is_spare Pool = false
is_spare Claimed = false
is_spare ForSpace = false
is_spare ForInodes = false

-- the use of a block that is claimed as a new block of the trees of free space or of the inode trees would be
abbrev pub is_for_space : Use → Bool
is_for_space ForSpace = true
is_for_space Pool = false
is_for_space Reserved = false
is_for_space Claimed = false
is_for_space ForInodes = false

abbrev pub is_for_inodes : Use → Bool
is_for_inodes ForInodes = true
is_for_inodes Pool = false
is_for_inodes Reserved = false
is_for_inodes Claimed = false
is_for_inodes ForSpace = false

-- a block goes on where the one before it ends, by the owners and the offset words of both: the owner and the flags are equal, and for
-- data of a file the offset is the next
abbrev pub goes_on : ℕ × ℕ → ℕ × ℕ → Bool
goes_on (o, w) (p, x) = o == p && flags_of w == flags_of x && (not (is_file_data o w) || offset_in_fork w + 1 == offset_in_fork x)

abbrev pub is_joined : Option (ℕ × ℕ) → Option (ℕ × ℕ) → Bool
is_joined (Some a) (Some b) = goes_on a b
is_joined (Some a) None = false
is_joined None b = false

-- the blocks of a packed tree
abbrev pub blocks_of_size : ℕ → ℕ → ℕ → ℕ
blocks_of_size leaf_cap node_cap records = sum (rows_of leaf_cap node_cap records)

-- the owner of the blocks of the inode trees, or of the other trees and the free list
abbrev pub owner_of : Bool → ℕ
owner_of inodes = if inodes then inode_trees_owner else group_owner

module _ (uses : List Use) where
  abbrev pub in_pool : ℕ → Bool
  in_pool block = is_open (use_at uses block)

  -- no block of the pool lies between
  abbrev pub NoneOpen : ℕ → ℕ → Type 0
  NoneOpen from to = (block : ℕ) → from ≤ block → block < to → in_pool block ≡ false

  -- how many blocks of the pool lie before a block
  abbrev pub rank : ℕ → ℕ
  rank block = how_many in_pool block

  -- the block is free when the n lowest blocks of the pool are taken
  abbrev pub is_free_at : ℕ → ℕ → Bool
  is_free_at n block = is_spare (use_at uses block) || (in_pool block && nat_le n (rank block))

  -- and the block before it is not
  abbrev pub begins_free : ℕ → ℕ → Bool
  begins_free n block = is_free_at n block && not (nat_lt 0 block && is_free_at n (block - 1))

  -- how many runs of free blocks there are then
  unfoldable pub free_run_count : ℕ → ℕ
  free_run_count n = how_many (begins_free n) (length uses)

  -- with how many of the two blocks beside it a block would be one record, as a block of the inode trees or of the others
  abbrev pub met_neighbours : Bool → ℕ → ℕ
  met_neighbours inodes x = if inodes
      then one_if (in_pool (x - 1) || is_for_inodes (use_at uses (x - 1))) + one_if (is_for_inodes (use_at uses (x + 1)))
      else (one_if (in_pool (x - 1) || is_for_space (use_at uses (x - 1))) + one_if (is_for_space (use_at uses (x + 1))))

  -- blocks of the pool, of which each has as many before it as stand before it in the list
  pub record AreLowest (blocks : List ℕ) : Type 0 where
    pub open' : (k : ℕ) → k < length blocks → in_pool (slice_index blocks k) ≡ true
    pub ranks : (k : ℕ) → k < length blocks → rank (slice_index blocks k) ≡ k

  -- the sums of these numbers for the first blocks of the list, for none to all of them
  pub record AreSums (inodes : Bool) (blocks sums : List ℕ) : Type 0 where
    pub all : length sums ≡ length blocks + 1
    pub each : (n : ℕ) → n ≤ length blocks → slice_index sums n ≡ total (λ k. met_neighbours inodes (slice_index blocks k)) n

-- a block with an owner that does not go on where the one before it ends
abbrev pub begins_owned : (ℕ → Option (ℕ × ℕ)) → ℕ → Bool
begins_owned owned block = is_some (owned block) && not (nat_lt 0 block && is_joined (owned (block - 1)) (owned block))

-- a group before its trees are placed: what its blocks are for, the owner and the offset word of those that are claimed, and how many
-- blocks its two inode trees take
pub record Group : Type 0 where
  pub uses : List Use
  pub claim : ℕ → Option (ℕ × ℕ)
  pub inner : ℕ

module _ (g : Group) where
  -- the blocks of the two trees of free space: these runs stand in each of them
  abbrev pub space_blocks : ℕ → ℕ
  space_blocks n = 2 * blocks_of_size 505 336 (free_run_count g.uses n)

  -- the inode trees stand behind the trees of free space, and the tree of owners and the free list behind those: the block of a rank is of
  -- the inode trees
  abbrev pub is_inner : ℕ → ℕ → Bool
  is_inner space k = nat_le space k && nat_lt k (space + g.inner)

  -- the owner of the block of a rank
  abbrev pub owner_by : ℕ → ℕ → ℕ
  owner_by space k = owner_of (is_inner space k)

  -- the owner and the offset word of a block when the n lowest blocks of the pool are taken, of which so many go to the trees of free
  -- space
  abbrev pub owned_at : ℕ → ℕ → ℕ → Option (ℕ × ℕ)
  owned_at space n block = if in_pool g.uses block && nat_lt (rank g.uses block) n then Some (owner_by space (rank g.uses block), 0) else g.claim block

  -- how many records of owners there are then
  unfoldable pub owner_count : ℕ → ℕ → ℕ
  owner_count space n = how_many (begins_owned (owned_at space n)) (length g.uses)

  -- the blocks of all five trees
  unfoldable pub need : ℕ → ℕ
  need n = space_blocks n + g.inner + blocks_of_size 168 91 (owner_count (space_blocks n) n)

  -- the n lowest blocks of the pool hold the trees, and leave the free list from low to high of them
  abbrev pub LeavesFree : ℕ → ℕ → ℕ → Type 0
  LeavesFree low high n = (n ≤ rank g.uses (length g.uses)) × (need n + low ≤ n) × (n ≤ need n + high)

  -- the least number of blocks that leaves the free list 6 to 118 of them; where there is none, the greatest that leaves it 0 to 5
  abbrev pub IsChosenCount : Option ℕ → Type 0
  IsChosenCount (Some n) = IsLeast (LeavesFree 6 118) n ⊎ (IsNone (LeavesFree 6 118) × IsGreatest (LeavesFree 0 5) n)
  IsChosenCount None = IsNone (LeavesFree 6 118) × IsNone (LeavesFree 0 5)

abbrev pub group : List Use → (ℕ → Option (ℕ × ℕ)) → ℕ → Group
group uses claim inner = record { uses = uses; claim = claim; inner = inner }

-- the group by the uses of its blocks, its claims, and the blocks that its two inode trees take
abbrev pub group_claimed : List Use → List Run → ℕ → Group
group_claimed uses claims inner = group uses (held_at claims) inner

-- how many records of owners there are before anything is placed
unfoldable pub claim_count : Group → ℕ
claim_count g = how_many (begins_owned g.claim) (length g.uses)

-- the lowest blocks of the pool that are found so far, the sums for them, the first block that is not looked at yet, and the runs of free
-- blocks that are left when they are taken
pub record AreFound (uses : List Use) (blocks space inodes : List ℕ) (next free : ℕ) : Type 0 where
  pub low : AreLowest uses blocks
  pub space' : AreSums uses false blocks space
  pub inodes' : AreSums uses true blocks inodes
  pub at : rank uses next ≡ length blocks
  pub inside : next ≤ length uses
  pub free' : free ≡ free_run_count uses (length blocks)

abbrev pub Stands : List Use → Lowest → Type 0
Stands uses l = AreFound uses l.blocks.items l.space.items l.inodes.items l.next l.free

-- what the uses of a group and its claims keep: the first block is claimed, a block of the pool has no owner, nothing stands behind the
-- group, and the uses tell where a new block of the trees would join what is claimed
pub record IsPlacingGroup (g : Group) : Type 0 where
  pub header : use_at g.uses 0 ≡ Claimed
  pub free : (b : ℕ) → in_pool g.uses b ≡ true → g.claim b ≡ None
  pub inside : (b : ℕ) → length g.uses ≤ b → g.claim b ≡ None
  pub spare : (b : ℕ) → is_spare (use_at g.uses b) ≡ true → g.claim b ≡ None
  pub rest : (b : ℕ) → b < length g.uses → g.claim b ≡ None → (in_pool g.uses b || is_spare (use_at g.uses b)) ≡ true
  pub space : (b : ℕ) → is_joined (g.claim b) (Some (group_owner, 0)) ≡ is_for_space (use_at g.uses b)
  pub space_behind : (b : ℕ) → is_joined (Some (group_owner, 0)) (g.claim b) ≡ is_for_space (use_at g.uses b)
  pub inodes : (b : ℕ) → is_joined (g.claim b) (Some (inode_trees_owner, 0)) ≡ is_for_inodes (use_at g.uses b)
  pub inodes_behind : (b : ℕ) → is_joined (Some (inode_trees_owner, 0)) (g.claim b) ≡ is_for_inodes (use_at g.uses b)

-- none of the numbers below n leaves the free list enough; and the greatest of them that leaves it little, if there is one
pub record IsJudged (g : Group) (n : ℕ) (poor : Option ℕ) : Type 0 where
  pub rich : (k : ℕ) → k < n → LeavesFree g 6 118 k → ⊥
  pub little : MatchOption poor ((k : ℕ) → k < n → LeavesFree g 0 5 k → ⊥) (λ p. LeavesFree g 0 5 p × (p < n) × ((k : ℕ) → p < k → k < n → LeavesFree g 0 5 k → ⊥))

-- the same of each group with these uses, of which so many records of owners are there before anything is placed
pub record AreJudged (uses : List Use) (inner records n : ℕ) (poor : Option ℕ) : Type 0 where
  pub each : (claim : ℕ → Option (ℕ × ℕ)) → IsPlacingGroup (group uses claim inner) → claim_count (group uses claim inner) ≡ records → IsJudged (group uses claim inner) n poor
