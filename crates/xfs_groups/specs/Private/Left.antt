-- The trees of all groups, of which those of the first are taken.
use Rattle.std.specs.Prelude.{◌≡◌, ℕ, List, map}
use Rattle.std.specs.Vec.Iter.{into_iter_items}
use Rattle.xfs_disk.specs.Blocks.{Image}
use Rattle.xfs_geom.specs.Volumes.{Volume}
use Rattle.xfs_kinds.specs.FreeTrees.{bno_shape, cnt_shape}
use Rattle.xfs_kinds.specs.InodeTrees.{ino_shape, fino_shape}
use Rattle.xfs_kinds.specs.OwnerTrees.{rmap_shape}
use Rattle.xfs_kinds.specs.declared.free_trees.Bno.{Bno}
use Rattle.xfs_kinds.specs.declared.free_trees.Cnt.{Cnt}
use Rattle.xfs_kinds.specs.declared.inode_trees.Ino.{Ino}
use Rattle.xfs_kinds.specs.declared.inode_trees.Fino.{Fino}
use Rattle.xfs_kinds.specs.declared.owner_trees.Rmap.{Rmap}
use Rattle.xfs_forest.specs.Forest.{contents_of}
use Rattle.xfs_groups.specs.Private.Forests.{IsTaken, grown_from}
use Rattle.xfs_groups.specs.Private.Roots.{bno_root, cnt_root, fino_root, ino_root, rmap_root}
use Rattle.xfs_groups.specs.declared.forests.Forests.{Forests}
use Rattle.xfs_groups.specs.declared.heads.Heads.{Heads}
use Rattle.xfs_groups.specs.declared.trees.Trees.{Trees}

-- of each kind the trees of so many groups from one on are left
pub record AreLeft (v : Volume) (image : Image) (heads : List Heads) (ag count : ℕ) (forests : Forests) : Type 0 where
  pub bno : map contents_of (into_iter_items forests.bno) ≡ grown_from (λ (k : Bno). bno_shape k.ag) (λ ag. record { ag = ag }) v image bno_root heads ag count
  pub cnt : map contents_of (into_iter_items forests.cnt) ≡ grown_from (λ (k : Cnt). cnt_shape k.ag) (λ ag. record { ag = ag }) v image cnt_root heads ag count
  pub ino : map contents_of (into_iter_items forests.ino) ≡ grown_from (λ (k : Ino). ino_shape k.ag) (λ ag. record { ag = ag }) v image ino_root heads ag count
  pub fino : map contents_of (into_iter_items forests.fino) ≡ grown_from (λ (k : Fino). fino_shape k.ag) (λ ag. record { ag = ag }) v image fino_root heads ag count
  pub rmap : map contents_of (into_iter_items forests.rmap) ≡ grown_from (λ (k : Rmap). rmap_shape k.ag) (λ ag. record { ag = ag }) v image rmap_root heads ag count

-- of each kind the tree of the next group is taken, where its headers name one
pub record AreTaken (h : Heads) (old : Forests) (trees : Trees) (new : Forests) : Type 0 where
  pub bno : IsTaken (bno_root h) (into_iter_items old.bno) trees.bno (into_iter_items new.bno)
  pub cnt : IsTaken (cnt_root h) (into_iter_items old.cnt) trees.cnt (into_iter_items new.cnt)
  pub ino : IsTaken (ino_root h) (into_iter_items old.ino) trees.ino (into_iter_items new.ino)
  pub fino : IsTaken (fino_root h) (into_iter_items old.fino) trees.fino (into_iter_items new.fino)
  pub rmap : IsTaken (rmap_root h) (into_iter_items old.rmap) trees.rmap (into_iter_items new.rmap)
