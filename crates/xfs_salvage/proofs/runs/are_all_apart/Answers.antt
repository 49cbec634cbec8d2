use Rattle.std.proofs.Common.{sym, ◌∙◌}
use Rattle.xfs_collections.specs.Blocks.{is_in}
use Rattle.xfs_claims.specs.Spans.{spans_of}
use Rattle.xfs_salvage.proofs.Apart.{left_after, left_first}
use Rattle.xfs_salvage.proofs.runs.are_all_apart.Goals as goal

pub loop-run-init : goal.loop-run-init
loop-run-init g c = left_first c.make-set.result (spans_of c.args.runs.now) c.make-set.ensures

pub loop-run-preserved : goal.loop-run-preserved
loop-run-preserved g c =
    left_after (is_in c.loop-run.set) (is_in c.add.new.self) c.args.runs.now c.loop-run.run-index c.loop-run-test.true c.requires (sym c.meets.ensures.met ∙ c.if-meets.false)
    c.in_ok-add.ensures.blocks c.loop-run.invariant
