use Rattle.std.proofs.Common.{◌≡◌, length, take}
use Rattle.xfs_collections.specs.Lists.{list_at}
use Rattle.xfs_links.proofs.walk.pending.Given as goal

abbrev pub invariant-loop-start : goal.invariant-loop-start
invariant-loop-start l = record {
  nodes : l.weave.nodes ≡ l.count;
  lists : length l.weave.lists ≡ 3;
  pending : list_at l.weave 0 ≡ take l.start-index l.starts;
}
