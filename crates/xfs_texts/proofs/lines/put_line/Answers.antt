use Rattle.std.proofs.Common.{◌+◌}
use Rattle.xfs_texts.proofs.Telling.{puts_as, puts_then, puts_failed, next_label, line_of_first, line_of_all}
use Rattle.xfs_texts.proofs.lines.put_line.Goals as goal

pub returns-in-Err : goal.returns-in-Err
returns-in-Err g c =
    puts_as _ _ _ _ _ _ _ (line_of_first c.args.numbers.now (c.loop-label.label-index + 1) c.args.end.now)
    (puts_failed _ _ _ _ _ _ _
    (puts_as _ _ _ _ _ _ _ (next_label c.args.numbers.now c.loop-label.label-index _ c.loop-label-test.true)
    (puts_then _ _ _ _ _ _ _ _ _ _ c.loop-label.invariant c.in-Err.ensures)))

pub loop-label-preserved : goal.loop-label-preserved
loop-label-preserved g c =
    puts_as _ _ _ _ _ _ _ (next_label c.args.numbers.now c.loop-label.label-index _ c.loop-label-test.true)
    (puts_then _ _ _ _ _ _ _ _ _ _ c.loop-label.invariant c.in-Ok.ensures)

pub returns : goal.returns
returns g c =
    puts_as _ _ _ _ _ _ _ (line_of_all c.args.numbers.now c.loop-label.label-index c.args.end.now c.loop-label-test.false)
    (puts_then _ _ _ _ _ _ _ _ _ _ c.loop-label.invariant c.put_text.ensures)
