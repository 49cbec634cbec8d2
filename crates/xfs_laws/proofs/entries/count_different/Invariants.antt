use Rattle.std.proofs.Common.{◌≡◌, ◌≤◌, ◌+◌, length, drop}
use Rattle.xfs_space.specs.Owners.{different}
use Rattle.xfs_laws.proofs.entries.count_different.Given as goal

abbrev pub invariant-loop-index : goal.invariant-loop-index
invariant-loop-index l = record {
  few : l.count ≤ l.index;
  left : l.count + length (different (drop l.index l.entries)) ≡ length (different l.entries);
}
