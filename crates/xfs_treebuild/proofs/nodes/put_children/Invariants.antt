use Rattle.std.proofs.Common.{◌≡◌, ℕ, ◌<◌, ◌+◌, get_or}
use Rattle.xfs_geom.specs.Volumes.{volume_of}
use Rattle.xfs_tree.specs.Blocks.{child_at}
use Rattle.xfs_treebuild.specs.Packing.{block_of_part}
use Rattle.xfs_treebuild.specs.Exact.{KeepsBesideChildren, HasSpeltKeys}
use Rattle.xfs_treebuild.specs.Private.Placed.{seat_of}
use Rattle.xfs_treebuild.proofs.nodes.put_children.Given as goal

abbrev pub invariant-loop-i : goal.invariant-loop-i
invariant-loop-i g l = record {
  put : (k : ℕ) → k < l.i → child_at (g.K.Kind.shape l.kind) (volume_of l.g) l.block k
      ≡ seat_of (g.K.Kind.shape l.kind) l.level (get_or l.places k 0) (block_of_part l.part (l.from + k));
  spelt : (k : ℕ) → k < l.i → HasSpeltKeys (g.K.Kind.shape l.kind) k l.block;
  keeps : KeepsBesideChildren (g.K.Kind.shape l.kind).layout l.i l.fn.block l.block;
}
