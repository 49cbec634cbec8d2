use Rattle.xfs_geom.specs.Volumes.{volume_of}
use Rattle.xfs_volume_tests.proofs.render.slots.slot_of.Goals as goal

pub returns-then-ino-gt132-clause-can : goal.returns-then-ino-gt132-clause-can
returns-then-ino-gt132-clause-can c = c.free.ensures.can (volume_of c.args.g.now)
