use Rattle.std.proofs.Common.{sym, ◌∙◌, ap}
use Rattle.std.proofs.lemmas.List.{drop_all}
use Rattle.xfs_space.proofs.Shared.{first_of_all, none_overlap, overlap, overlap_at}
use Rattle.xfs_space.proofs.Splits.{no_run}
use Rattle.xfs_space.proofs.sharing.first_shared.Goals as goal

pub returns-then-run-end : goal.returns-then-run-end
returns-then-run-end c =
    first_of_all c.args.runs.now _ (sym c.loop-run.invariant ∙ overlap_at c.args.runs.now c.loop-run.run-index c.loop-run.end no_run c.loop-run-test.true c.if-run-end.true)
    c.requires.sized c.requires.rise

pub returns : goal.returns
returns c =
    none_overlap c.args.runs.now 0 (sym c.loop-run.invariant ∙ ap (overlap c.loop-run.end) (drop_all c.loop-run.run-index c.args.runs.now c.loop-run-test.false)) c.requires.sized
