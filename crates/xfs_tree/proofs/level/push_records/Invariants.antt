use Rattle.std.proofs.Common.{◌≡◌, ◌++◌}
use Rattle.xfs_tree.specs.Blocks.{count_of, record_at, records_of}
use Rattle.xfs_tree.proofs.Rest.{rest_of}
use Rattle.xfs_tree.proofs.level.push_records.Given as goal

abbrev pub invariant-loop-i : goal.invariant-loop-i
invariant-loop-i g l = record {
  ends : l.i-end ≡ count_of l.block;
  pushed : l.records.items ++ rest_of l.i (count_of l.block) (record_at (g.K.Kind.shape l.kind) l.block)
      ≡ l.fn.records.items ++ records_of (g.K.Kind.shape l.kind) l.block;
}
