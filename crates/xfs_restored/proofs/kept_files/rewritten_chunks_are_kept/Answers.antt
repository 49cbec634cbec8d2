use Rattle.xfs_restored.proofs.KeptChunks.{clusters_are, inodes_are_kept}
use Rattle.xfs_restored.proofs.kept_files.rewritten_chunks_are_kept.Goals as goal

pub returns-clause-clusters : goal.returns-clause-clusters
returns-clause-clusters c = λ g image kept reserved groups agf_crc agi_crc of. clusters_are g image kept reserved groups agf_crc agi_crc of

pub returns-clause-inodes : goal.returns-clause-inodes
returns-clause-inodes c = λ g image kept reserved groups agf_crc agi_crc of. inodes_are_kept g image kept reserved groups agf_crc agi_crc of
