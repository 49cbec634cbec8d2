use Rattle.std.proofs.Common.{◌≡◌, ℕ, ◌+◌, ◌-◌, ◌*◌, ◌^◌, ◌<◌, ◌≤◌, map, length, take, drop}
use Rattle.std.specs.List.{sum}
use Rattle.xfs_disk.specs.Blocks.{Image}
use Rattle.xfs_geom.specs.Volumes.{volume_of}
use Rattle.xfs_treebuild.specs.Size.{rows_above}
use Rattle.xfs_treebuild.specs.Exact.{IsExact}
use Rattle.xfs_treebuild.specs.Packing.{block_of_part, lsn_of, HoldsParts, rows_in, AreRows, IsPacked}
use Rattle.xfs_treebuild.proofs.PackingRows.{IsRising}
use Rattle.xfs_treebuild.proofs.packing.pack.Given as goal

abbrev pub invariant-loop-count : goal.invariant-loop-count
invariant-loop-count g l = record {
  some : 1 ≤ l.count;
  size : l.first + l.count + sum (rows_above l.count (g.K.Kind.shape l.kind).layout.node_cap l.count) ≡ length l.places;
  low : 2 ^ l.level * (l.count - 1) < 2 ^ 62;
  lsns : (j : ℕ) → j < l.first + l.count → lsn_of (g.K.Kind.shape l.kind).layout (block_of_part l.part j) ≡ 0;
  exact : (j : ℕ) → j < l.first + l.count → IsExact (g.K.Kind.shape l.kind) (block_of_part l.part j);
  rising : 2 ≤ l.count → IsRising (g.K.Kind.shape l.kind) l.level l.count (λ j. block_of_part l.part (l.first + j));
  rows : (image : Image) → HoldsParts image (take (l.first + l.count) l.places) l.part
      → AreRows (g.K.Kind.shape l.kind) (volume_of l.g) image (take l.count (drop l.first l.places)) l.level
      (rows_in (rows_above l.count (g.K.Kind.shape l.kind).layout.node_cap l.count) (drop (l.first + l.count) l.places))
      → IsPacked (g.K.Kind.shape l.kind) (volume_of l.g) image (map (g.K.Kind.shape l.kind).settled l.records) l.places;
}

abbrev pub decreases-loop-count : goal.decreases-loop-count
decreases-loop-count g l = l.count
