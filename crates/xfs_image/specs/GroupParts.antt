-- A group that reads, part by part.
use Rattle.std.specs.Prelude.{◌≡◌, ℕ, ◌+◌, List, [], ◌∷◌, Some}
use Rattle.xfs_disk.specs.Blocks.{Image}
use Rattle.xfs_geom.specs.Volumes.{Volume}
use Rattle.xfs_inode.specs.xfs_tree.Reading.{Contents}
use Rattle.xfs_volume.specs.declared.groups.GroupRec.{GroupRec}
use Rattle.xfs_volume.specs.declared.groups.TreeBlocks.{TreeBlocks}
use Rattle.xfs_image.specs.Groups.{agf_at, agi_at, agfl_at, bno_at, cnt_at, ino_at, fino_at, rmap_at}

-- a tree that has these records and these blocks
abbrev pub tree : {R : Type 0} → List R → List ℕ → Contents R
tree records blocks = record { records = records; blocks = blocks }

abbrev pub blocks_only : List ℕ → TreeBlocks
blocks_only blocks = record { blocks = blocks }

-- all eight parts of a group read, and they are what the group has
pub record IsGroupRead (v : Volume) (image : Image) (ag : ℕ) (g : GroupRec) : Type 0 where
  pub bno_blocks : List ℕ
  pub cnt_blocks : List ℕ
  pub ino_blocks : List ℕ
  pub fino_blocks : List ℕ
  pub rmap_blocks : List ℕ
  pub agf : agf_at v image ag ≡ Some g.agf
  pub agi : agi_at v image ag ≡ Some g.agi
  pub agfl : agfl_at v image ag g.agf ≡ Some g.agfl
  pub bno : bno_at v image ag g.agf ≡ Some (tree g.bno bno_blocks)
  pub cnt : cnt_at v image ag g.agf ≡ Some (tree g.cnt cnt_blocks)
  pub ino : ino_at v image ag g.agi ≡ Some (tree g.ino ino_blocks)
  pub fino : fino_at v image ag g.agi ≡ Some (tree g.fino fino_blocks)
  pub rmap : rmap_at v image ag g.agf ≡ Some (tree g.rmap rmap_blocks)
  pub blocks : g.blocks
      ≡ blocks_only bno_blocks ∷ blocks_only cnt_blocks ∷ blocks_only ino_blocks ∷ blocks_only fino_blocks ∷ blocks_only rmap_blocks ∷ []

-- all groups from one on read
abbrev pub AreGroupsRead : Volume → Image → ℕ → List GroupRec → Type 0
AreGroupsRead v image ag [] = Unit {0}
AreGroupsRead v image ag (g ∷ gs) = IsGroupRead v image ag g × AreGroupsRead v image (ag + 1) gs
