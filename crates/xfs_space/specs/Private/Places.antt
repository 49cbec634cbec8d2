-- Where extents lie.
use Rattle.std.specs.Prelude.{◌+◌, ◌≤◌, ◌<◌, ◌^◌}
use Rattle.xfs_word.specs.declared.extents.Extent.{Extent}
use Rattle.xfs_geom.specs.Conversions.{group_length}
use Rattle.xfs_geom.specs.Groups.{group_of_address, ag_block_of_address}
use Rattle.xfs_geom.specs.Volumes.{Volume}

-- the extent has some blocks of one group of the volume, at offsets that a file can have
pub record IsPlacedExtent (v : Volume) (e : Extent) : Type 0 where
  pub some : 1 ≤ e.count
  pub group : group_of_address v.agblklog e.start < v.agcount
  pub inside : ag_block_of_address v.agblklog e.start + e.count ≤ group_length v (group_of_address v.agblklog e.start)
  pub offsets : e.offset + e.count < 2 ^ 54
