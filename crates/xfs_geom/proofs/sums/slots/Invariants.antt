use Rattle.std.proofs.Common.{◌≡◌, ◌≤◌, ◌+◌, ◌*◌, ◌^◌, drop}
use Rattle.xfs_geom.specs.Sums.{slots}
use Rattle.xfs_geom.proofs.sums.slots.Given as goal

abbrev pub invariant-loop-chunk : goal.invariant-loop-chunk
invariant-loop-chunk l = record {
  left : l.inodes + slots (drop l.chunk-index l.chunks) ≡ slots l.chunks;
  less : l.inodes ≤ l.chunk-index * 2 ^ 8;
}
