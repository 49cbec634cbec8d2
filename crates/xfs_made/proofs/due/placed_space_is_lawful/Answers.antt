use Rattle.xfs_geom.specs.Volumes.{volume_of}
use Rattle.xfs_made.proofs.Spaces.{space_lawful}
use Rattle.xfs_made.proofs.due.placed_space_is_lawful.Goals as goal

pub returns : goal.returns
returns c = λ g kept reserved inodes groups files agf_crc agi_crc are placed pool just.
    space_lawful (volume_of g) g.shape.groups g.shape.log_inside kept reserved inodes groups files agf_crc agi_crc are placed just
