use Rattle.std.proofs.Common.{option_map}
use Rattle.std.specs.Option.{option_copied}
use Rattle.xfs_geom.specs.Volumes.{volume_of}
use Rattle.xfs_inode.specs.Files.{contents_of}
use Rattle.xfs_inode.proofs.Sound.{answer_sound}
use Rattle.xfs_inode.proofs.deciding.decide_read.Goals as goal

pub returns-clause-sound : goal.returns-clause-sound
returns-clause-sound c =
    answer_sound (volume_of c.args.g.now) c.args.ino c.args.slot.now (option_map contents_of (option_copied c.args.tree)) (option_copied c.args.attr_leaf)
    (option_copied c.args.link) c.by_slot.result c.by_slot.ensures
