use Rattle.xfs_geom.specs.Volumes.{volume_of}
use Rattle.std.proofs.Common.{length}
use Rattle.xfs_filled.specs.Chunks.{chunk_starts}
use Rattle.xfs_populated.proofs.FilesJoined.{files_joined}
use Rattle.xfs_populated.proofs.FilesLinked.{link_blocks}
use Rattle.xfs_populated.proofs.SlotsRead.{populated_at, starts_first}
use Rattle.xfs_populated.proofs.SlotTargets.{slots_due}
use Rattle.xfs_populated.proofs.NumberChunks.{inodes_are}
use Rattle.xfs_filled.proofs.Starting.{are_chunks}
use Rattle.xfs_populated.proofs.files.filled_files_read.Goals as goal

pub returns : goal.returns
returns c = λ g sector s ns contents plan blocks image agf agi is.
    files_joined (volume_of g) s (chunk_starts g (length ns)) ns contents is.filled.placed.runs image (slots_due g sector s ns contents plan blocks image is (link_blocks g sector s ns contents plan blocks image is))
    g.shape.groups (starts_first g (length ns)) is.files.some (populated_at g sector s ns contents plan blocks image is).enough _
    (inodes_are g (length ns) (chunk_starts g (length ns)) (are_chunks g (length ns) is.first) is.filled.placed.groups agf agi)
