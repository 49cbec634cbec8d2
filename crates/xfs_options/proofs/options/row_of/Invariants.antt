use Rattle.std.proofs.Common.{◌≡◌, drop}
use Rattle.xfs_options.specs.Options.{row_of}
use Rattle.xfs_options.proofs.options.row_of.Given as goal

abbrev pub invariant-loop-row : goal.invariant-loop-row
invariant-loop-row l = row_of l.letter (drop l.row-index l.rows) ≡ row_of l.letter l.rows
