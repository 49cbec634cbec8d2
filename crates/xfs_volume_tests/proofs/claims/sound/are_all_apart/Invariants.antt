use Rattle.std.proofs.Common.{drop}
use Rattle.xfs_claims.specs.Spans.{spans_of, SpansApart}
use Rattle.xfs_volume_tests.proofs.claims.sound.are_all_apart.Given as goal

abbrev pub invariant-loop-i : goal.invariant-loop-i
invariant-loop-i l = SpansApart (spans_of (drop l.i l.runs)) → SpansApart (spans_of l.runs)
