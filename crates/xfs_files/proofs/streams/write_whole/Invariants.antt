use Rattle.xfs_files.proofs.Pieces.{HasGiven}
use Rattle.xfs_files.proofs.streams.write_whole.Given as goal

abbrev pub invariant-loop : goal.invariant-loop
invariant-loop g l = HasGiven (g.W.Outlet.contents l.fn.writer) (g.W.Outlet.contents l.writer) l.done l.from
