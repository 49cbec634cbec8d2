use Rattle.std.proofs.Common.{◌≡◌, ◌≤◌, ◌+◌, ◌*◌, ◌^◌, drop}
use Rattle.xfs_geom.specs.Sums.{free_slots}
use Rattle.xfs_geom.proofs.sums.free_slots.Given as goal

abbrev pub invariant-loop-chunk : goal.invariant-loop-chunk
invariant-loop-chunk l = record {
  left : l.inodes + free_slots (drop l.chunk-index l.chunks) ≡ free_slots l.chunks;
  less : l.inodes ≤ l.chunk-index * 2 ^ 8;
}
