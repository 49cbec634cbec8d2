use Rattle.std.proofs.Common.{◌<◌}
use Rattle.std.proofs.lemmas.List.Elements.{All-more}
use Rattle.xfs_geom.specs.declared.records.Run.{Run}
use Rattle.xfs_space.proofs.Splits.{behind_from, no_run, split_place}
use Rattle.xfs_space.proofs.splitting.split_runs.Goals as goal

pub returns-then-run-block : goal.returns-then-run-block
returns-then-run-block c =
    split_place c.args.runs.now c.split_at.result.0.now c.split_at.result.1.now c.loop-index.index c.args.block c.split_at.ensures.front c.split_at.ensures.back c.requires.apart
    c.loop-index.invariant (behind_from c.args.runs.now 0 c.loop-index.index c.args.block no_run c.requires.follow c.loop-index-test.true c.if-run-block.true)

pub loop-index-preserved : goal.loop-index-preserved
loop-index-preserved c = All-more (λ (r : Run). r.start < c.args.block) c.args.runs.now c.loop-index.index no_run c.loop-index-test.true c.loop-index.invariant c.if-run-block.false
