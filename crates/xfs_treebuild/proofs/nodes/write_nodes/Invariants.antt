use Rattle.std.proofs.Common.{◌≡◌, ℕ, ◌<◌, ◌+◌, length}
use Rattle.xfs_disk.specs.Shares.{first_of_share}
use Rattle.xfs_geom.specs.Volumes.{volume_of}
use Rattle.xfs_treebuild.specs.Packing.{block_of_part}
use Rattle.xfs_treebuild.specs.Private.Placed.{IsNodeAt, seats_in}
use Rattle.xfs_treebuild.proofs.nodes.write_nodes.Given as goal

abbrev pub invariant-loop-i : goal.invariant-loop-i
invariant-loop-i g l = record {
  start : l.from ≡ first_of_share (length l.below) (length l.row) l.i;
  nodes : (j : ℕ) → j < l.i → IsNodeAt (g.K.Kind.shape l.kind) (volume_of l.g) (l.level + 1)
      (seats_in (g.K.Kind.shape l.kind) l.level l.below l.fn.first l.fn.part) l.row j (block_of_part l.part (l.fn.first + length l.below + j));
  before : (k : ℕ) → k < l.fn.first + length l.below → block_of_part l.part k ≡ block_of_part l.fn.part k;
}
