use Rattle.std.proofs.Common.{◌≡◌, length, sym, ◌∙◌, ap, arith}
use Rattle.xfs_place.specs.Choice.{begins_free, free_run_count, how_many, one_if}
use Rattle.xfs_place.proofs.Totals.{total_more, total_none}
use Rattle.xfs_place.proofs.lowest.count_free.Goals as goal

pub loop-block-init : goal.loop-block-init
loop-block-init c = (sym (total_none (λ b. one_if (begins_free c.args.uses.now 0 b))), omega arith)

pub loop-block-preserved : goal.loop-block-preserved
loop-block-preserved c =
    let here : c.one_if-runs.result ≡ one_if (begins_free c.args.uses.now 0 c.loop-block.block) = c.one_if-runs.ensures.value ∙ ap one_if c.begins_free.ensures in (
      omega (arith, here, c.loop-block.invariant.0, total_more (λ b. one_if (begins_free c.args.uses.now 0 b)) c.loop-block.block),
      omega (arith, c.loop-block.invariant.1, c.one_if-runs.ensures.small),
    )

pub returns : goal.returns
unfolding free_run_count
returns c =
    let all : c.loop-block.block ≡ length c.args.uses.now = omega arith in
    c.loop-block.invariant.0 ∙ ap (how_many (begins_free c.args.uses.now 0)) all
