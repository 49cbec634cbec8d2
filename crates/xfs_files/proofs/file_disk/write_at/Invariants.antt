use Rattle.xfs_files.proofs.Pieces.{HasWritten}
use Rattle.xfs_files.proofs.file_disk.write_at.Given as goal

abbrev pub invariant-loop : goal.invariant-loop
invariant-loop g l = HasWritten g.F.ByteFile.bytes l.start l.done l.fn.file l.file l.from
