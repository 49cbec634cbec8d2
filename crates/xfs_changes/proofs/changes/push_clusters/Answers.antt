use Rattle.std.proofs.Common.{ℕ, ◌+◌, ◌==◌, if◌then◌else◌, [], map}
use Rattle.std.specs.List.{range_with_len}
use Rattle.xfs_changes.specs.Slots.{free_change}
use Rattle.xfs_changes.proofs.Pushing.{rows_more}
use Rattle.xfs_changes.proofs.changes.push_clusters.Goals as goal

pub loop-i-preserved : goal.loop-i-preserved
loop-i-preserved c =
    rows_more (λ (cluster : ℕ). if c.args.new == c.args.ino then map free_change (range_with_len (c.args.ino + 1) 31) else []) c.args.clusters.now c.loop-i.i 0
    c.loop-i.changes.items c.push_cluster.new.changes.items _ c.loop-i-test.true c.in_ok-push_cluster.ensures c.loop-i.invariant
