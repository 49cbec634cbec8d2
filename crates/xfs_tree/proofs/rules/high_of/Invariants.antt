use Rattle.std.proofs.Common.{◌≡◌, None}
use Rattle.xfs_tree.specs.Blocks.{count_of, high_key_at, highs_of}
use Rattle.xfs_tree.specs.Rules.{greatest_with}
use Rattle.xfs_tree.proofs.Rest.{rest_of}
use Rattle.xfs_tree.proofs.rules.high_of.Given as goal

abbrev pub invariant-loop-i : goal.invariant-loop-i
invariant-loop-i g l = record {
  ends : l.i-end ≡ count_of l.block;
  rest : greatest_with (g.K.Kind.shape l.kind) l.best (rest_of l.i (count_of l.block) (high_key_at (g.K.Kind.shape l.kind) l.level l.block))
      ≡ greatest_with (g.K.Kind.shape l.kind) None (highs_of (g.K.Kind.shape l.kind) l.level l.block);
}
