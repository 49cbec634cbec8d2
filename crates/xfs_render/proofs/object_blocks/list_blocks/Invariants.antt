use Rattle.std.proofs.Common.{◌≡◌, ◌++◌, ◌≤◌, drop, length}
use Rattle.xfs_place.specs.Objects.{ServeAsks}
use Rattle.xfs_render.specs.Objects.{blocks_of_asks}
use Rattle.xfs_render.proofs.ObjectSteps.{plain_asks}
use Rattle.xfs_render.proofs.object_blocks.list_blocks.Given as goal

abbrev pub invariant-loop-i : goal.invariant-loop-i
invariant-loop-i l = record {
  inside : l.at ≤ length l.runs;
  cuts : ServeAsks (plain_asks (drop l.i l.asks)) (drop l.i l.cuts) (drop l.at l.runs);
  all : l.blocks.items ++ blocks_of_asks (drop l.i l.asks) (drop l.i l.cuts) (drop l.at l.runs) ≡ blocks_of_asks l.asks l.cuts l.runs;
}
