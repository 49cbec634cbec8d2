use Rattle.std.proofs.Common.{◌≡◌, ◌≤◌}
use Rattle.xfs_place.specs.Choice.{begins_free, how_many}
use Rattle.xfs_place.proofs.lowest.count_free.Given as goal

abbrev pub invariant-loop-block : goal.invariant-loop-block
invariant-loop-block l = (l.runs ≡ how_many (begins_free l.uses 0) l.block) × (l.runs ≤ l.block)
