use Rattle.std.proofs.Common.{arith}
use Rattle.xfs_volume_tests.proofs.render.slots.free.Goals as goal

pub returns-clause-can : goal.returns-clause-can
returns-clause-can c v old = record { base = tt; forkoff = omega arith; fork = tt }
