use Rattle.std.proofs.Common.{◌+◌}
use Rattle.xfs_texts.proofs.Rows.{next_row, page_of_all, page_of_first}
use Rattle.xfs_texts.proofs.Telling.{puts_as, puts_failed, puts_then}
use Rattle.xfs_texts.proofs.help.put_options.Goals as goal

pub returns-in-Err : goal.returns-in-Err
returns-in-Err g c =
    puts_as _ _ _ _ _ _ _ (page_of_first c.args.rows.now (c.loop-row.row-index + 1) c.args.ends.now)
    (puts_failed _ _ _ _ _ _ _
    (puts_as _ _ _ _ _ _ _ (next_row c.args.rows.now c.loop-row.row-index _ c.loop-row-test.true)
    (puts_then _ _ _ _ _ _ _ _ _ _ c.loop-row.invariant c.in-Err.ensures)))

pub loop-row-preserved : goal.loop-row-preserved
loop-row-preserved g c =
    puts_as _ _ _ _ _ _ _ (next_row c.args.rows.now c.loop-row.row-index _ c.loop-row-test.true)
    (puts_then _ _ _ _ _ _ _ _ _ _ c.loop-row.invariant c.in-Ok.ensures)

pub returns : goal.returns
returns g c =
    puts_as _ _ _ _ _ _ _ (page_of_all c.args.rows.now c.loop-row.row-index c.args.ends.now c.loop-row-test.false)
    (puts_then _ _ _ _ _ _ _ _ _ _ c.loop-row.invariant c.put_text.ensures)
