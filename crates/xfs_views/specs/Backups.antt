-- Two images that differ in backup superblocks alone, and what the groups of a volume are read from (chapters "Superblocks" and
-- "Allocation Groups").
use Rattle.std.specs.Prelude.{◌≡◌, ℕ, ◌+◌, ◌≤◌, ◌<◌, List, [], ◌∷◌, drop}
use Rattle.std.specs.List.{flat_map}
use Rattle.xfs_disk.specs.Blocks.{Image, bytes_of_block}
use Rattle.xfs_geom.specs.Volumes.{Volume}
use Rattle.xfs_volume.specs.declared.groups.GroupRec.{GroupRec}
use Rattle.xfs_volume.specs.declared.groups.TreeBlocks.{TreeBlocks}
use Rattle.xfs_image.specs.Groups.{head_block}
use Rattle.xfs_views.specs.Same.{HoldSameBytes}

-- the first block of the group holds the same bytes behind its first sector: the headers of the group
abbrev pub HasSameHeaders : Volume → Image → Image → ℕ → Type 0
HasSameHeaders v image now ag = drop 512 (bytes_of_block now (head_block v ag)) ≡ drop 512 (bytes_of_block image (head_block v ag))

-- the blocks of the five trees of a group
abbrev pub group_tree_blocks : GroupRec → List ℕ
group_tree_blocks g = flat_map (λ (tree : TreeBlocks). tree.blocks) g.blocks

-- the headers of these groups, from one on, are the same, and the blocks of their trees
abbrev pub AreGroupsSame : Volume → Image → Image → ℕ → List GroupRec → Type 0
AreGroupsSame v image now ag [] = Unit {0}
AreGroupsSame v image now ag (g ∷ gs) =
    HasSameHeaders v image now ag × HoldSameBytes image now (group_tree_blocks g) × AreGroupsSame v image now (ag + 1) gs

-- The two differ in backup superblocks alone: in the first sectors of the groups behind the first.
pub record DifferInBackups (v : Volume) (image now : Image) : Type 0 where
  pub behind : (ag : ℕ) → 1 ≤ ag → ag < v.agcount → HasSameHeaders v image now ag
  pub others : (block : ℕ) → ((ag : ℕ) → 1 ≤ ag → ag < v.agcount → block ≡ head_block v ag → ⊥) → bytes_of_block now block ≡ bytes_of_block image block
