-- What stands in a group once its trees and its free list are placed (chapters "AG Free Space Management" and "Reverse-Mapping B+tree").
use Rattle.std.specs.Prelude.{◌≡◌, ℕ, true, false, ◌+◌, ◌≤◌, ◌<◌, List, [], ◌∷◌, length, map, take, drop, slice_index, Some}
use Rattle.std.specs.List.{AllAdjacentBelow, filter, range_with_len, sum}
use Rattle.std.specs.List.Sorted.{IsPermutation}
use Rattle.xfs_geom.specs.Sums.{has_free}
use Rattle.xfs_geom.specs.declared.records.InoRec.{InoRec}
use Rattle.xfs_geom.specs.declared.records.RmapRec.{RmapRec}
use Rattle.xfs_geom.specs.declared.records.Run.{Run}
use Rattle.xfs_geom.specs.declared.records.Span.{Span}
use Rattle.xfs_kinds.specs.FreeRuns.{AreSeparate, is_in_spans}
use Rattle.xfs_kinds.specs.FreeTrees.{ranks_behind}
use Rattle.xfs_kinds.specs.MergedRuns.{NoneJoin, held_at}
use Rattle.xfs_volume.specs.declared.groups.TreeBlocks.{TreeBlocks}
use Rattle.xfs_place.specs.declared.placed.GroupPlaced.{GroupPlaced}
use Rattle.xfs_place.specs.Claims.{AreClaims}
use Rattle.xfs_place.specs.Choice.{AreLowest, Group, IsChosenCount, is_free_at, need, owned_at, owner_by, blocks_of_size, space_blocks}

-- the lowest blocks of the pool, one run each, with the owners that their ranks give them
abbrev pub tree_claims : Group → ℕ → List ℕ → ℕ → List Run
tree_claims g space blocks n = map (λ k. record { start = slice_index blocks k; count = 1; owner = owner_by g space k; offset_word = 0 }) (range_with_len 0 n)

-- runs that give each block of the group its owner and its offset word when n blocks are taken, and no other block
pub record AreOwned (g : Group) (space n : ℕ) (runs : List Run) : Type 0 where
  pub claims : AreClaims (length g.uses) runs
  pub held : (block : ℕ) → block < length g.uses → held_at runs block ≡ owned_at g space n block

-- the runs of free blocks when n blocks are taken: each as long as can be, by their starts
pub record AreFreeRuns (g : Group) (n : ℕ) (runs : List Span) : Type 0 where
  pub blocks : (block : ℕ) → block < length g.uses → is_in_spans runs block ≡ is_free_at g.uses n block
  pub inside : (block : ℕ) → length g.uses ≤ block → is_in_spans runs block ≡ false
  pub separate : AreSeparate 0 runs

-- a record of owners as a run of AG blocks
abbrev pub run_of_record : RmapRec → Run
run_of_record r = record { start = r.start; count = r.count; owner = r.owner; offset_word = r.offset_word }

-- the records of owners of a group when n blocks are taken: those that go on where the one before ends are one
pub record AreRecords (g : Group) (space n : ℕ) (records : List RmapRec) : Type 0 where
  pub owned : AreOwned g space n (map run_of_record records)
  pub apart : NoneJoin (map run_of_record records)

-- the same runs, a longer one behind a shorter one, and of two of one length the one that begins behind
pub record AreByLength (runs sorted : List Span) : Type 0 where
  pub same : IsPermutation runs sorted
  pub order : AllAdjacentBelow (λ x y. ranks_behind (Some x) y ≡ true) sorted (length sorted)

-- a list cut into parts of these lengths
abbrev pub cut : List ℕ → List ℕ → List (List ℕ)
cut [] blocks = []
cut (size ∷ sizes) blocks = take size blocks ∷ cut sizes (drop size blocks)

-- the blocks of the two inode trees of a group
abbrev pub inner_blocks : List InoRec → ℕ
inner_blocks inodes = blocks_of_size 252 505 (length inodes) + blocks_of_size 252 505 (length (filter has_free inodes))

-- the blocks of the five trees
abbrev pub tree_sizes : ℕ → ℕ → ℕ → ℕ → List ℕ
tree_sizes free inodes inodes_with_free owners =
    blocks_of_size 505 336 free ∷ blocks_of_size 505 336 free ∷ blocks_of_size 252 505 inodes ∷ blocks_of_size 252 505 inodes_with_free ∷ blocks_of_size 168 91 owners ∷ []

-- the blocks of a tree by their numbers, in a group from block `base` on
abbrev pub tree_blocks_at : ℕ → List ℕ → TreeBlocks
tree_blocks_at base blocks = record { blocks = map (λ block. base + block) blocks }

-- the trees and the free list of a group stand on the lowest blocks of its pool, as many as are chosen, and hold what is then in the
-- group; the free list has those blocks that the trees do not need
pub record IsPlacedGroup (g : Group) (base : ℕ) (inodes : List InoRec) (p : GroupPlaced) : Type 0 where
  pub blocks : List ℕ
  pub chosen : IsChosenCount g (Some (length blocks))
  pub low : AreLowest g.uses blocks
  pub bno : AreFreeRuns g (length blocks) p.bno
  pub cnt : AreByLength p.bno p.cnt
  pub fino : p.fino ≡ filter has_free inodes
  pub rmap : AreRecords g (space_blocks g (length blocks)) (length blocks) p.rmap
  pub trees : p.trees ≡ map (tree_blocks_at base) (cut (tree_sizes (length p.bno) (length inodes) (length p.fino) (length p.rmap)) blocks)
  pub agfl : p.agfl ≡ drop (sum (tree_sizes (length p.bno) (length inodes) (length p.fino) (length p.rmap))) blocks
  pub left : length p.agfl + need g (length blocks) ≡ length blocks
