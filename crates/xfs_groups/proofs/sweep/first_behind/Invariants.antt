use Rattle.std.proofs.Common.{◌-◌, ◌≤◌, length, drop}
use Rattle.xfs_groups.specs.Named.{GiveAlike}
use Rattle.xfs_groups.proofs.sweep.first_behind.Given as goal

abbrev pub invariant-loop-next : goal.invariant-loop-next
invariant-loop-next l = record {
  low : l.from ≤ l.next;
  high : l.next ≤ length l.records;
  alike : GiveAlike l.block (drop l.from l.records) (drop l.next l.records);
}

abbrev pub decreases-loop-next : goal.decreases-loop-next
decreases-loop-next l = length l.records - l.next
