use Rattle.xfs_made.proofs.FirstKept.{chunk_due, clusters_kept}
use Rattle.xfs_made.proofs.files.first_chunk_is_kept.Goals as goal

pub returns-clause-chunk : goal.returns-clause-chunk
returns-clause-chunk c = chunk_due

pub returns-clause-kept : goal.returns-clause-kept
returns-clause-kept c = λ g s crc first. clusters_kept g s crc
