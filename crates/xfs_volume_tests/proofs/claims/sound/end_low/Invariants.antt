use Rattle.std.proofs.Common.{take}
use Rattle.std.specs.List.{All}
use Rattle.xfs_claims.specs.Keeping.{EndsLow}
use Rattle.xfs_volume_tests.proofs.claims.sound.end_low.Given as goal

abbrev pub invariant-loop-cluster : goal.invariant-loop-cluster
invariant-loop-cluster l = All (λ c. EndsLow c.block) (take l.cluster-index l.clusters)
