-- What the parts of a catalog keep by themselves, before any law: records are lawful in their trees, blocks lie where they can.
use Rattle.std.specs.Prelude.{ℕ, ◌+◌, ◌/◌, ◌≡◌, ◌≤◌, ◌<◌, List, [], ◌∷◌, length, None, IsTrue}
use Rattle.std.specs.List.{All}
use Rattle.xfs_geom.specs.Volumes.{Volume}
use Rattle.xfs_volume.specs.xfs_heads.FreeList.{has_blocks}
use Rattle.xfs_kinds.specs.xfs_tree.Rules.{are_lawful}
use Rattle.xfs_kinds.specs.FreeTrees.{bno_shape, cnt_shape}
use Rattle.xfs_kinds.specs.InodeTrees.{ino_shape, fino_shape}
use Rattle.xfs_kinds.specs.OwnerTrees.{rmap_shape}
use Rattle.xfs_kinds.specs.FileTrees.{bmbt_shape}
use Rattle.xfs_volume.specs.declared.files.FileRec.{FileRec}
use Rattle.xfs_volume.specs.declared.groups.GroupRec.{GroupRec}
use Rattle.xfs_volume.specs.declared.groups.TreeBlocks.{TreeBlocks}

-- the blocks are those of the group
abbrev pub AreOfGroup : Volume → ℕ → List ℕ → Type 0
AreOfGroup v ag blocks = All (λ block. (block < v.dblocks) × (block / v.agblocks ≡ ag)) blocks

pub record IsLawfulGroup (v : Volume) (ag : ℕ) (g : GroupRec) : Type 0 where
  pub count : g.agfl.count ≤ 119
  pub listed : IsTrue (has_blocks v ag g.agfl)
  pub bno : IsTrue (are_lawful (bno_shape ag) v None g.bno)
  pub cnt : IsTrue (are_lawful (cnt_shape ag) v None g.cnt)
  pub ino : IsTrue (are_lawful (ino_shape ag) v None g.ino)
  pub fino : IsTrue (are_lawful (fino_shape ag) v None g.fino)
  pub rmap : IsTrue (are_lawful (rmap_shape ag) v None g.rmap)
  pub trees : length g.blocks ≡ 5
  pub blocks : All (λ (tree : TreeBlocks). AreOfGroup v ag tree.blocks) g.blocks

-- the groups from one on
abbrev pub AreGroups : Volume → ℕ → List GroupRec → Type 0
AreGroups v ag [] = Unit {0}
AreGroups v ag (g ∷ gs) = IsLawfulGroup v ag g × AreGroups v (ag + 1) gs

pub record HasLawfulForks (v : Volume) (f : FileRec) : Type 0 where
  pub extents : IsTrue (are_lawful (bmbt_shape f.ino) v None f.extents)
  pub attr_extents : IsTrue (are_lawful (bmbt_shape f.ino) v None f.rest.attr_extents)
  pub tree : All (λ block. block < v.dblocks) f.rest.tree
