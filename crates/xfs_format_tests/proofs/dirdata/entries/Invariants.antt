use Rattle.std.proofs.Common.{All}
use Rattle.xfs_dirdata.specs.Written.{IsWritableEntry}
use Rattle.xfs_format_tests.proofs.dirdata.entries.Given as goal

abbrev pub invariant-loop-i : goal.invariant-loop-i
invariant-loop-i g l = All IsWritableEntry l.entries.items
