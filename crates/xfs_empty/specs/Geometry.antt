-- What the geometry of an empty volume keeps besides its shape.
use Rattle.std.specs.Prelude.{◌≡◌, ◌≤◌}
use Rattle.xfs_geom.specs.Volumes.{Volume}

-- the root is the first inode of the chunk at blocks 16 to 23, and the log lies behind it
pub record HasFirstChunk (v : Volume) : Type 0 where
  pub root : v.rootino ≡ 128
  pub log : 24 ≤ v.log
