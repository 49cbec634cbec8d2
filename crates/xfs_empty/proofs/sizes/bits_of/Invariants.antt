use Rattle.std.proofs.Common.{◌*◌, ◌<◌, ◌^◌}
use Rattle.xfs_empty.proofs.sizes.bits_of.Given as goal

abbrev pub invariant-loop-bits : goal.invariant-loop-bits
invariant-loop-bits l = 2 ^ l.bits < 2 * l.size
