use Rattle.xfs_files.proofs.Pieces.{HasRead}
use Rattle.xfs_files.proofs.file_disk.read_at.Given as goal

abbrev pub invariant-loop : goal.invariant-loop
invariant-loop g l = HasRead g.F.ByteFile.bytes l.start l.done l.fn.file l.file l.fn.into l.into
