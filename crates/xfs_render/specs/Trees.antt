-- The trees of a group, as they read from an image (chapters "AG Free Space Management", "AG Inode Management" and "Reverse-Mapping
-- B+tree").
use Rattle.std.specs.Prelude.{◌≡◌, ℕ, ◌+◌, ◌-◌, ◌*◌, List, [], ◌∷◌, ◌++◌, length, map, Ok}
use Rattle.std.specs.List.{All}
use Rattle.xfs_disk.specs.Blocks.{Image, bytes_of_block}
use Rattle.xfs_geom.specs.Volumes.{Volume}
use Rattle.xfs_geom.specs.declared.records.InoRec.{InoRec}
use Rattle.xfs_kinds.specs.FreeTrees.{bno_shape, cnt_shape}
use Rattle.xfs_kinds.specs.InodeTrees.{ino_shape, fino_shape}
use Rattle.xfs_kinds.specs.OwnerTrees.{rmap_shape}
use Rattle.xfs_place.specs.declared.placed.GroupPlaced.{GroupPlaced}
use Rattle.xfs_treebuild.specs.Exact.{IsExact}
use Rattle.xfs_treebuild.specs.Packing.{IsPacked, lsn_of, root_of, rows_at, top_down}
use Rattle.xfs_tree.specs.Reading.{Contents, reading, root_seat}
use Rattle.xfs_tree.specs.Shape.{Shape}
use Rattle.xfs_render.specs.Counters.{levels}
use Rattle.xfs_render.specs.Drafts.{Adds, HoldsDraft}
use Rattle.xfs_render.specs.Groups.{due_agf, due_agi, tree_places}
use Rattle.xfs_render.specs.declared.draft.Draft.{Draft}

-- what a packed tree of these records at these places holds
abbrev pub packed_tree : {R K : Type 0} → Shape R K → List R → List ℕ → Contents R
packed_tree s records places = record { records = map s.settled records; blocks = top_down (rows_at s.layout (length records) places) }

-- from a block down, with so many levels, the image has the packed tree
abbrev pub ReadsFrom : {R K : Type 0} → Shape R K → Volume → Image → ℕ → ℕ → List R → List ℕ → Type 0
ReadsFrom s v image root n records places = reading s v image (root_seat root ∷ []) (n - 1) ≡ Ok (packed_tree s records places)

-- the same, each block with its share of what its level holds; none of the tree's blocks states a log sequence number, and what neither
-- the header nor the items of a block state is zero
pub record HasTree {R K : Type 0} (s : Shape R K) (v : Volume) (image : Image) (root n : ℕ) (records : List R) (places : List ℕ) : Type 0 where
  pub reads : ReadsFrom s v image root n records places
  pub packed : IsPacked s v image (map s.settled records) places
  pub lsns : All (λ place. lsn_of s.layout (bytes_of_block image place) ≡ 0) places
  pub exact : All (λ place. IsExact s (bytes_of_block image place)) places

-- a tree was put down: its root stands last
pub record AddsTree {R K : Type 0} (s : Shape R K) (v : Volume) (old new : Draft) (records : List R) (places : List ℕ) : Type 0 where
  pub adds : Adds old new places (length places)
  pub has : (image : Image) → HoldsDraft image new
      → HasTree s v image (root_of places) (levels s.layout.leaf_cap s.layout.node_cap (length records)) records places

-- the blocks of the five trees of a group
abbrev pub group_tree_places : GroupPlaced → List ℕ
group_tree_places p = tree_places p 0 ++ tree_places p 1 ++ tree_places p 2 ++ tree_places p 3 ++ tree_places p 4

-- the AG block in the group
abbrev pub block_in_group : Volume → ℕ → ℕ → ℕ
block_in_group v ag block = ag * v.agblocks + block

-- from the roots that the headers name, with the levels that they state, the image has the five trees
pub record HasTrees (v : Volume) (image : Image) (ag : ℕ) (inodes : List InoRec) (p : GroupPlaced) : Type 0 where
  pub bno : HasTree (bno_shape ag) v image (block_in_group v ag (due_agf v ag p).bnoroot) (due_agf v ag p).bnolevel p.bno (tree_places p 0)
  pub cnt : HasTree (cnt_shape ag) v image (block_in_group v ag (due_agf v ag p).cntroot) (due_agf v ag p).cntlevel p.cnt (tree_places p 1)
  pub ino : HasTree (ino_shape ag) v image (block_in_group v ag (due_agi v ag inodes p).root) (due_agi v ag inodes p).level inodes (tree_places p 2)
  pub fino : HasTree (fino_shape ag) v image (block_in_group v ag (due_agi v ag inodes p).free_root) (due_agi v ag inodes p).free_level p.fino (tree_places p 3)
  pub rmap : HasTree (rmap_shape ag) v image (block_in_group v ag (due_agf v ag p).rmaproot) (due_agf v ag p).rmaplevel p.rmap (tree_places p 4)

-- the trees of a group were put down
pub record AddsTrees (v : Volume) (ag : ℕ) (inodes : List InoRec) (p : GroupPlaced) (old new : Draft) : Type 0 where
  pub adds : Adds old new (group_tree_places p) (length (group_tree_places p))
  pub reads : (image : Image) → HoldsDraft image new → HasTrees v image ag inodes p
