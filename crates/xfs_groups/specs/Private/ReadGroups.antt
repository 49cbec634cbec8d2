-- What is read of a group, and what its trees say, in an image.
use Rattle.std.specs.Prelude.{◌≡◌, ℕ, ◌||◌}
use Rattle.std.specs.Option.{option_and_then}
use Rattle.xfs_disk.specs.Lists.{is_among}
use Rattle.xfs_disk.specs.Blocks.{Image}
use Rattle.xfs_geom.specs.Volumes.{Volume}
use Rattle.xfs_image.specs.Clusters.{is_trusted, named_by_chunks, named_by_owners, names}
use Rattle.xfs_image.specs.Groups.{agf_at, agfl_at, agi_at, bno_at, cnt_at, fino_at, group_read, ino_at, rmap_at}
use Rattle.xfs_image.specs.Reserved.{is_of_named, is_of_tree}
use Rattle.xfs_groups.specs.declared.heads.Heads.{Heads}
use Rattle.xfs_groups.specs.declared.one_group.GroupTold.{GroupTold}
use Rattle.xfs_groups.specs.declared.one_group.Told.{Told}
use Rattle.xfs_groups.specs.declared.trees.Trees.{Trees}

-- the headers and trees of a group are what reads in an image
pub record ArePartsRead (v : Volume) (image : Image) (ag : ℕ) (h : Heads) (t : Trees) : Type 0 where
  pub agf : h.agf ≡ agf_at v image ag
  pub agi : h.agi ≡ agi_at v image ag
  pub agfl : h.agfl ≡ option_and_then (agfl_at v image ag) h.agf
  pub bno : t.bno ≡ option_and_then (bno_at v image ag) h.agf
  pub cnt : t.cnt ≡ option_and_then (cnt_at v image ag) h.agf
  pub ino : t.ino ≡ option_and_then (ino_at v image ag) h.agi
  pub fino : t.fino ≡ option_and_then (fino_at v image ag) h.agi
  pub rmap : t.rmap ≡ option_and_then (rmap_at v image ag) h.agf

-- what is told of a group is what its trees say in an image
pub record IsToldIn (v : Volume) (image : Image) (ag : ℕ) (told : Told) : Type 0 where
  pub trusted : told.trusted ≡ is_trusted v image ag
  pub named : (q : ℕ) → is_among told.named q ≡ (names (named_by_chunks v image ag) q || names (named_by_owners v image ag) q)
  pub held : (q : ℕ) → is_among told.held q
      ≡ (is_of_tree (option_and_then (ino_at v image ag) (agi_at v image ag)) q || is_of_tree (option_and_then (rmap_at v image ag) (agf_at v image ag)) q
      || is_of_named (named_by_chunks v image ag) q || is_of_named (named_by_owners v image ag) q)

-- the group, and what its trees say, in an image
pub record IsGroupTold (v : Volume) (image : Image) (ag : ℕ) (group : GroupTold) : Type 0 where
  pub record_is : group.record ≡ group_read v image ag
  pub told_is : IsToldIn v image ag group.told
