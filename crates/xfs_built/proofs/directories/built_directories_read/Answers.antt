use Rattle.xfs_built.proofs.Sized.{built_sized}
use Rattle.xfs_built.proofs.Whole.{maps_runs, reads_now, short_reads_now}
use Rattle.xfs_built.proofs.directories.built_directories_read.Goals as goal

pub returns-clause-sized : goal.returns-clause-sized
returns-clause-sized c = built_sized

pub returns-clause-mapped : goal.returns-clause-mapped
returns-clause-mapped c = maps_runs

pub returns-clause-blocks : goal.returns-clause-blocks
returns-clause-blocks c = reads_now

pub returns-clause-short : goal.returns-clause-short
returns-clause-short c = short_reads_now
