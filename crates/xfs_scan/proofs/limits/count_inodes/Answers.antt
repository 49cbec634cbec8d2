use Rattle.std.proofs.Common.{arith}
use Rattle.xfs_scan.proofs.Counting.{few_inodes}
use Rattle.xfs_scan.proofs.limits.count_inodes.Goals as goal

pub overflow_mul-result : goal.overflow_mul-result
overflow_mul-result c = let few = few_inodes c.args.g.now c.args.clusters.now c.requires.ascend c.requires.inside in omega (arith, few)
