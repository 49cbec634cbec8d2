use Rattle.xfs_geom.specs.Volumes.{volume_of}
use Rattle.xfs_inode.proofs.claims.ranges_apart.Goals as goal

pub returns-then-is_single : goal.returns-then-is_single
returns-then-is_single c = c.is_single.ensures c.if-is_single.true (volume_of c.args.g.now)
