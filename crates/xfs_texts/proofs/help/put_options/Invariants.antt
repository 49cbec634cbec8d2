use Rattle.std.proofs.Common.{map, take, Ok}
use Rattle.xfs_texts.specs.Private.Labels.{row_now}
use Rattle.xfs_texts.specs.Help.{option_lines}
use Rattle.xfs_texts.specs.Lines.{PutsText}
use Rattle.xfs_texts.proofs.help.put_options.Given as goal

abbrev pub invariant-loop-row : goal.invariant-loop-row
invariant-loop-row g l =
    PutsText (g.S.Sink.took l.fn.sink) (g.S.Sink.took l.sink) (g.S.Sink.faults l.fn.sink) (g.S.Sink.faults l.sink)
    (option_lines (map row_now (take l.row-index l.rows))) (Ok tt)
