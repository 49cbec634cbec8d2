use Rattle.std.proofs.Common.{◌≡◌}
use Rattle.xfs_commands.specs.Commands.{session_of}
use Rattle.xfs_commands.specs.Cursors.{pushed}
use Rattle.xfs_commands.proofs.cursor.Cursor.save.Given as goal

abbrev pub invariant-loop : goal.invariant-loop
invariant-loop l = session_of l.self ≡ pushed l.counter l.place (session_of l.fn.self)
