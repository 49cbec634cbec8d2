use Rattle.std.proofs.Common.{◌≡◌, None}
use Rattle.xfs_tree.specs.Blocks.{count_of, low_key_at, lows_of}
use Rattle.xfs_tree.specs.Rules.{ascend_behind}
use Rattle.xfs_tree.proofs.Rest.{rest_of}
use Rattle.xfs_tree.proofs.rules.ascends.Given as goal

abbrev pub invariant-loop-i : goal.invariant-loop-i
invariant-loop-i g l = record {
  ends : l.i-end ≡ count_of l.block;
  rest : ascend_behind (g.K.Kind.shape l.kind) l.before (rest_of l.i (count_of l.block) (low_key_at (g.K.Kind.shape l.kind) l.level l.block))
      ≡ ascend_behind (g.K.Kind.shape l.kind) None (lows_of (g.K.Kind.shape l.kind) l.level l.block);
}
