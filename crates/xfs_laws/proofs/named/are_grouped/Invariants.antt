use Rattle.std.proofs.Common.{◌↔◌, ◌≤◌, drop, length}
use Rattle.xfs_naming.specs.Naming.{AreGrouped}
use Rattle.xfs_laws.proofs.named.are_grouped.Given as goal

abbrev pub invariant-loop-index : goal.invariant-loop-index
invariant-loop-index l = record {
  within : l.at ≤ length l.entries;
  left : AreGrouped (drop l.index l.dirs) (drop l.at l.entries) ↔ AreGrouped l.dirs l.entries;
}
