use Rattle.std.proofs.Common.{◌≡◌, drop}
use Rattle.std.specs.List.{list_all}
use Rattle.xfs_claims.specs.Spans.{spans_apart, span_pair, spans_of}
use Rattle.xfs_volume_tests.proofs.claims.sound.is_apart_from.Given as goal

abbrev pub invariant-loop-other : goal.invariant-loop-other
invariant-loop-other l = list_all (spans_apart (span_pair l.run)) (spans_of (drop l.other-index l.others)) ≡ list_all (spans_apart (span_pair l.run)) (spans_of l.others)
