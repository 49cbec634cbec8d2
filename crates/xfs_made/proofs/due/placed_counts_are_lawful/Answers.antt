use Rattle.xfs_geom.specs.Volumes.{volume_of}
use Rattle.xfs_made.proofs.Chunks.{chunks_kept}
use Rattle.xfs_made.proofs.Entries.{chains_kept, lists_kept}
use Rattle.xfs_made.proofs.Totals.{counters_kept}
use Rattle.xfs_made.proofs.due.placed_counts_are_lawful.Goals as goal

pub returns-clause-counters : goal.returns-clause-counters
returns-clause-counters c = λ g kept reserved inodes groups counts agf_crc agi_crc all placed are.
    counters_kept (volume_of g) kept reserved inodes groups agf_crc agi_crc placed counts all are

pub returns-clause-lists : goal.returns-clause-lists
returns-clause-lists c = λ g kept reserved inodes groups agf_crc agi_crc placed pool. lists_kept (volume_of g) kept reserved inodes groups agf_crc agi_crc pool

pub returns-clause-chains : goal.returns-clause-chains
returns-clause-chains c = λ g inodes groups agf_crc agi_crc. chains_kept (volume_of g) inodes groups agf_crc agi_crc

pub returns-clause-chunks : goal.returns-clause-chunks
returns-clause-chunks c = λ g kept reserved inodes groups files agf_crc agi_crc placed due. chunks_kept (volume_of g) kept reserved inodes groups files agf_crc agi_crc placed due
