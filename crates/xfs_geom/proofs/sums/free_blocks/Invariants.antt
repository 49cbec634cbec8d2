use Rattle.std.proofs.Common.{◌≡◌, ◌≤◌, ◌+◌, ◌*◌, ◌^◌, drop}
use Rattle.xfs_geom.specs.Sums.{free_blocks}
use Rattle.xfs_geom.proofs.sums.free_blocks.Given as goal

abbrev pub invariant-loop-span : goal.invariant-loop-span
invariant-loop-span l = record {
  left : l.blocks + free_blocks (drop l.span-index l.spans) ≡ free_blocks l.spans;
  less : l.blocks ≤ l.span-index * 2 ^ 32;
}
