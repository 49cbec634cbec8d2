use Rattle.std.proofs.Common.{◌≡◌}
use Rattle.xfs_geom.specs.Volumes.{volume_of}
use Rattle.xfs_tree.specs.Blocks.{count_of, record_at, records_of}
use Rattle.xfs_tree.specs.Rules.{are_lawful}
use Rattle.xfs_tree.proofs.Rest.{rest_of}
use Rattle.xfs_tree.proofs.rules.are_lawful.Given as goal

abbrev pub invariant-loop-i : goal.invariant-loop-i
invariant-loop-i g l = record {
  ends : l.i-end ≡ count_of l.block;
  rest : are_lawful (g.K.Kind.shape l.kind) (volume_of l.g) l.before (rest_of l.i (count_of l.block) (record_at (g.K.Kind.shape l.kind) l.block))
      ≡ are_lawful (g.K.Kind.shape l.kind) (volume_of l.g) l.fn.before (records_of (g.K.Kind.shape l.kind) l.block);
}
