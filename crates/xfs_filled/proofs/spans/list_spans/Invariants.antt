use Rattle.std.proofs.Common.{◌≡◌, length}
use Rattle.xfs_geom.specs.Volumes.{volume_of}
use Rattle.xfs_filled.proofs.Spanned.{AreSpanned}
use Rattle.xfs_filled.proofs.spans.list_spans.Given as goal

abbrev pub invariant-loop-k : goal.invariant-loop-k
invariant-loop-k l = record {
  count : length l.spans.items ≡ length l.site.nodes.now;
  so : AreSpanned (volume_of l.site.geometry.now) l.site.starts.now l.site.order.now l.runs l.k-index l.at l.spans.items;
}
