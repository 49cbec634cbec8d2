use Rattle.std.proofs.Common.{map, take, Ok}
use Rattle.xfs_texts.specs.Private.Labels.{label_now}
use Rattle.xfs_texts.specs.Lines.{PutsText}
use Rattle.xfs_texts.specs.Lines.{labelled}
use Rattle.xfs_texts.proofs.lines.put_line.Given as goal

abbrev pub invariant-loop-label : goal.invariant-loop-label
invariant-loop-label g l =
    PutsText (g.S.Sink.took l.fn.sink) (g.S.Sink.took l.sink) (g.S.Sink.faults l.fn.sink) (g.S.Sink.faults l.sink)
    (labelled (map label_now (take l.label-index l.numbers))) (Ok tt)
