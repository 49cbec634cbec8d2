-- Laws about what is placed. Each function does nothing; its contract is the laws.
use Rattle.std.specs.Prelude.{◌≡◌, ℕ, List, Some}
use Rattle.xfs_geom.specs.declared.records.InoRec.{InoRec}
use Rattle.xfs_place.specs.Choice.{Group, IsChosenCount}
use Rattle.xfs_place.specs.Placing.{IsPlacedGroup}
use Rattle.xfs_place.specs.declared.placed.GroupPlaced.{GroupPlaced}
use Rattle.xfs_place.specs.declared.placed.Placed.{Placed}
use Rattle.xfs_place.specs.declared.wanted.Wanted.{Wanted}
use Rattle.xfs_empty.specs.Planning.{StandsFor}

-- What a group held before decides how many blocks its trees and its free list take, and which ones; and then all that stands in it: free
-- runs, chunks with a free inode, records of owners, the blocks of each tree, and the free list.
abbrev pub PlacedGroupsAreOneChosen : Type 0
PlacedGroupsAreOneChosen = (g : Group) (m n : ℕ) → IsChosenCount g (Some m) → IsChosenCount g (Some n) → m ≡ n

-- of the same, `blocks`
abbrev pub PlacedGroupsAreOneBlocks : Type 0
PlacedGroupsAreOneBlocks = (g : Group) (base : ℕ) (inodes : List InoRec) (p q : GroupPlaced) (a : IsPlacedGroup g base inodes p) (b : IsPlacedGroup g base inodes q) → a.blocks ≡ b.blocks

-- of the same, `group`
abbrev pub PlacedGroupsAreOneGroup : Type 0
PlacedGroupsAreOneGroup = (g : Group) (base : ℕ) (inodes : List InoRec) (p q : GroupPlaced) → IsPlacedGroup g base inodes p → IsPlacedGroup g base inodes q → p ≡ q

-- Of one request there is one placing: the runs of its objects, what stands in each group, and the counts of the superblock.
abbrev pub PlacingsAreOneRuns : Type 0
PlacingsAreOneRuns = (w : Wanted) (p q : Placed) → StandsFor w p → StandsFor w q → p.runs ≡ q.runs

-- of the same, `groups`
abbrev pub PlacingsAreOneGroups : Type 0
PlacingsAreOneGroups = (w : Wanted) (p q : Placed) → StandsFor w p → StandsFor w q → p.groups ≡ q.groups

-- of the same, `counts`
abbrev pub PlacingsAreOneCounts : Type 0
PlacingsAreOneCounts = (w : Wanted) (p q : Placed) → StandsFor w p → StandsFor w q → p.counts ≡ q.counts
