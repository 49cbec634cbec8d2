use Rattle.std.proofs.Common.{◌≡◌, ◌++◌, drop}
use Rattle.xfs_rebuild.specs.Seen.{all_seen}
use Rattle.xfs_rebuild.proofs.seen.all_seen.Given as goal

abbrev pub invariant-loop-i : goal.invariant-loop-i
invariant-loop-i l = l.slots.items ++ all_seen l.bare (drop l.i l.inodes) (drop l.i l.facts) ≡ all_seen l.bare l.inodes l.facts
