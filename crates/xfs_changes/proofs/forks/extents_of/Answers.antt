use Rattle.std.proofs.Common.{ℕ, List, ◌++◌, ap}
use Rattle.std.specs.List.{flat_map}
use Rattle.std.proofs.lemmas.Result.{IfOk-from_err}
use Rattle.xfs_geom.specs.Volumes.{volume_of}
use Rattle.xfs_geom.specs.declared.records.Run.{Run}
use Rattle.xfs_changes.specs.Forks.{run_bytes}
use Rattle.xfs_changes.proofs.Pushing.{rows_end, rows_more}
use Rattle.xfs_changes.proofs.forks.extents_of.Goals as goal

-- what stands behind the last
abbrev no_run : Run
no_run = record { start = 0; count = 0; owner = 0; offset_word = 0 }

pub loop-run-init : goal.loop-run-init
loop-run-init c = ap (λ (xs : List ℕ). xs ++ flat_map (run_bytes (volume_of c.args.g.now)) c.args.runs.now) c.new-bytes.ensures.items

pub loop-run-preserved : goal.loop-run-preserved
loop-run-preserved c =
    rows_more (run_bytes (volume_of c.args.g.now)) c.args.runs.now c.loop-run.run-index no_run c.loop-run.bytes.items c.push_extent.new.bytes.items _
    c.loop-run-test.true c.in_ok-push_extent.ensures c.loop-run.invariant

pub returns : goal.returns
returns c = rows_end (run_bytes (volume_of c.args.g.now)) c.args.runs.now c.loop-run.run-index c.loop-run.bytes.items _ c.loop-run-test.false c.loop-run.invariant

pub returns-in_err-push_extent : goal.returns-in_err-push_extent
returns-in_err-push_extent c = IfOk-from_err c.from_residual.result _ c.from_residual.ensures.0
