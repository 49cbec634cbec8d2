use Rattle.std.proofs.Common.{◌↔◌, drop}
use Rattle.xfs_collections.specs.Blocks.{is_in}
use Rattle.xfs_claims.specs.Spans.{SpansApart, spans_of}
use Rattle.xfs_salvage.proofs.Apart.{AreLeft}
use Rattle.xfs_salvage.proofs.runs.are_all_apart.Given as goal

abbrev pub invariant-loop-run : goal.invariant-loop-run
invariant-loop-run g l = AreLeft (is_in l.set) (spans_of (drop l.run-index l.runs)) ↔ SpansApart (spans_of l.runs)
