-- The pairs name each index passed.
use Rattle.std.proofs.Common.{◌≡◌, length}
use Rattle.xfs_collections.specs.Scattered.{NamesEach}
use Rattle.xfs_collections.proofs.order.numbered.Given as goal

abbrev pub invariant-loop-i : goal.invariant-loop-i
invariant-loop-i l = record {
  each : NamesEach l.i l.pairs.items;
  count : length l.pairs.items ≡ l.i;
}
