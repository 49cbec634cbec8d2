use Rattle.std.proofs.Common.{arith}
use Rattle.xfs_volume_tests.proofs.render.slots.fresh.Goals as goal

pub returns-clause-can : goal.returns-clause-can
returns-clause-can c old = record { base = c.core_of.ensures; forkoff = omega arith; fork = c.requires }
