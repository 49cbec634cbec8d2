use Rattle.std.proofs.Common.{◌≡◌, ℕ, ◌*◌, ◌<◌, get_or}
use Rattle.xfs_word.specs.Field.{KeepsParts}
use Rattle.xfs_tree.specs.Layout.{header_len}
use Rattle.xfs_tree.specs.Blocks.{record_at}
use Rattle.xfs_treebuild.proofs.leaves.put_records.Given as goal

abbrev pub invariant-loop-i : goal.invariant-loop-i
invariant-loop-i g l = record {
  put : (k : ℕ) (d : g.row.K-Record.Denot) → k < l.i → record_at (g.K.Kind.shape l.kind) l.block k ≡ (g.K.Kind.shape l.kind).settled (get_or l.records k d);
  keeps : KeepsParts l.fn.block l.block (header_len (g.K.Kind.shape l.kind).layout) (l.i * (g.K.Kind.shape l.kind).layout.record_len);
}
