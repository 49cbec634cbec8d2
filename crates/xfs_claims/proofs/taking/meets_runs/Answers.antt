use Rattle.std.proofs.Common.{Bool, ◌||◌, ◌+◌, drop, sym, ap, ◌∙◌}
use Rattle.xfs_collections.specs.Blocks.{is_in}
use Rattle.xfs_claims.specs.Spans.{spans_of, meets_any}
use Rattle.xfs_claims.proofs.Gathered.{meets_next, no_run}
use Rattle.xfs_claims.proofs.Counted.{one_more}
use Rattle.xfs_claims.proofs.taking.meets_runs.Goals as goal

pub loop-run-preserved : goal.loop-run-preserved
loop-run-preserved g c =
    let set = is_in c.args.set.now in
    let runs = c.args.runs.now in
    let i = c.loop-run.run-index in (
      sym (meets_next set runs i no_run c.loop-run-test.true ∙ ap (λ (t : Bool). t || meets_any set (spans_of (drop (i + 1) runs))) (sym c.meets.ensures.met ∙ c.if-meets.false)) ∙ c.loop-run.invariant.0,
      one_more _ _ _ _ c.loop-run.invariant.1 c.meets.ensures.ticks,
    )
