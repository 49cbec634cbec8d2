use Rattle.std.proofs.Common.{◌≡◌, ℕ, ◌+◌, ◌==◌, if◌then◌else◌, [], ◌++◌, drop, map}
use Rattle.std.specs.List.{flat_map, range_with_len}
use Rattle.xfs_changes.specs.Slots.{free_change}
use Rattle.xfs_changes.proofs.changes.push_clusters.Given as goal

abbrev pub invariant-loop-i : goal.invariant-loop-i
invariant-loop-i l =
    l.changes.items ++ flat_map (λ (cluster : ℕ). if l.new == l.ino then map free_change (range_with_len (l.ino + 1) 31) else []) (drop l.i l.clusters)
    ≡ l.fn.changes.items ++ flat_map (λ (cluster : ℕ). if l.new == l.ino then map free_change (range_with_len (l.ino + 1) 31) else []) l.clusters
