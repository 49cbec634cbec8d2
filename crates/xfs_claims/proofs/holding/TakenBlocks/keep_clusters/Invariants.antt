use Rattle.std.proofs.Common.{◌≡◌, ◌+◌, ◌*◌, ◌≤◌, drop}
use Rattle.xfs_claims.specs.Private.Held.{held_of}
use Rattle.xfs_claims.specs.Keeping.{with_clusters}
use Rattle.xfs_claims.proofs.holding.TakenBlocks.keep_clusters.Given as goal

abbrev pub invariant-loop-block : goal.invariant-loop-block
invariant-loop-block g l =
    (with_clusters (held_of l.self) (drop l.block-index l.clusters) ≡ with_clusters (held_of l.fn.self) l.clusters) × (l.steps ≤ l.fn.steps + 2 * l.block-index)
