use Rattle.std.proofs.Common.{◌≡◌, ℕ, ◌<◌, length, map}
use Rattle.xfs_disk.specs.Shares.{first_of_share}
use Rattle.xfs_geom.specs.Volumes.{volume_of}
use Rattle.xfs_treebuild.specs.Packing.{block_of_part}
use Rattle.xfs_treebuild.specs.Private.Placed.{IsLeafAt}
use Rattle.xfs_treebuild.proofs.leaves.write_leaves.Given as goal

abbrev pub invariant-loop-i : goal.invariant-loop-i
invariant-loop-i g l = record {
  start : l.first ≡ first_of_share (length l.records) (length l.row) l.i;
  leaves : (j : ℕ) → j < l.i → IsLeafAt (g.K.Kind.shape l.kind) (volume_of l.g) (map (g.K.Kind.shape l.kind).settled l.records) l.row j (block_of_part l.part j);
}
