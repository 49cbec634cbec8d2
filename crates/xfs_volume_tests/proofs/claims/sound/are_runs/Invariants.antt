use Rattle.std.proofs.Common.{take}
use Rattle.std.specs.List.{All}
use Rattle.xfs_claims.specs.Spans.{IsRun}
use Rattle.xfs_volume_tests.proofs.claims.sound.are_runs.Given as goal

abbrev pub invariant-loop-run : goal.invariant-loop-run
invariant-loop-run l = All IsRun (take l.run-index l.runs)
