-- The image of a volume in which a rebuild was written.
use Rattle.std.specs.Prelude.{◌≡◌, ◌≤◌, ◌++◌, length}
use Rattle.xfs_disk.specs.Blocks.{Image}
use Rattle.xfs_geom.specs.declared.geometry.Geometry.{Geometry}
use Rattle.xfs_writing.specs.Writing.{written, writes_of_rows}
use Rattle.xfs_rename.specs.xfs_rebuild.declared.planning.Rebuilt.{Rebuilt}

-- the image was as large as the volume, and now it has what was to be written: the blocks that nothing kept stands on, and then those
-- that are written in place
pub record IsRewritten (g : Geometry) (r : Rebuilt) (image now : Image) : Type 0 where
  pub enough : g.dblocks ≤ length image
  pub is : now ≡ written (writes_of_rows r.bank (r.fresh ++ r.in_place)) image
