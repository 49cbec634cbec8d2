use Rattle.xfs_geom.specs.Volumes.{volume_of}
use Rattle.xfs_filled.specs.Chunks.{chunk_starts}
use Rattle.xfs_filled.proofs.Ascending.{inode_at_up}
use Rattle.xfs_filled.proofs.Starting.{are_chunks}
use Rattle.std.proofs.Common.{length, ◌*◌}
use Rattle.xfs_populated.proofs.NumberChunks.{inodes_are}
use Rattle.xfs_populated.proofs.files.chunks_have_inodes.Goals as goal

pub returns-clause-inodes : goal.returns-clause-inodes
returns-clause-inodes c = λ g ns p agf agi first.
    inodes_are g (length ns) (chunk_starts g (length ns)) (are_chunks g (length ns) first) p.groups agf agi

pub returns-clause-ascend : goal.returns-clause-ascend
returns-clause-ascend c = λ g ns i j first less low.
    inode_at_up (volume_of g) (g.agcount * g.agblocks) 16 i j (chunk_starts g (length ns)) g.shape.groups g.shape.addresses (are_chunks g (length ns) first).rise less low
