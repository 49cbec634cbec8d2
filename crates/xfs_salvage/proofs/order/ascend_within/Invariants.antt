use Rattle.std.proofs.Common.{◌↔◌, drop}
use Rattle.xfs_salvage.specs.Claimable.{AscendWithin}
use Rattle.xfs_salvage.proofs.order.ascend_within.Given as goal

abbrev pub invariant-loop-cluster : goal.invariant-loop-cluster
invariant-loop-cluster l = AscendWithin l.top l.low (drop l.cluster-index l.clusters) ↔ AscendWithin l.top 0 l.clusters
