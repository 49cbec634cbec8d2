use Rattle.std.proofs.Common.{◌-◌, ◌≤◌, length, drop}
use Rattle.xfs_groups.specs.Sets.{SameFrom}
use Rattle.xfs_groups.proofs.sets.first_from.Given as goal

abbrev pub invariant-loop-next : goal.invariant-loop-next
invariant-loop-next l = record {
  high : l.next ≤ length l.blocks;
  alike : SameFrom l.place (drop l.from l.blocks) (drop l.next l.blocks);
}

abbrev pub decreases-loop-next : goal.decreases-loop-next
decreases-loop-next l = length l.blocks - l.next
