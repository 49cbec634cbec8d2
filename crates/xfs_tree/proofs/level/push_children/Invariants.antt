use Rattle.std.proofs.Common.{◌≡◌, ◌++◌}
use Rattle.xfs_geom.specs.Volumes.{volume_of}
use Rattle.xfs_tree.specs.Blocks.{count_of, child_at, children_of}
use Rattle.xfs_tree.proofs.Rest.{rest_of}
use Rattle.xfs_tree.proofs.level.push_children.Given as goal

abbrev pub invariant-loop-i : goal.invariant-loop-i
invariant-loop-i g l = record {
  ends : l.i-end ≡ count_of l.block;
  pushed : l.next.items ++ rest_of l.i (count_of l.block) (child_at (g.K.Kind.shape l.kind) (volume_of l.g) l.block)
      ≡ l.fn.next.items ++ children_of (g.K.Kind.shape l.kind) (volume_of l.g) l.block;
}
