use Rattle.std.proofs.Common.{◌≡◌, drop, None}
use Rattle.std.specs.Option.{option_copied}
use Rattle.xfs_geom.specs.Volumes.{volume_of}
use Rattle.xfs_kinds.specs.FileTrees.{bmbt_shape}
use Rattle.xfs_tree.specs.Rules.{are_lawful}
use Rattle.xfs_salvage.proofs.extents.are_extents.Given as goal

abbrev pub invariant-loop-extent : goal.invariant-loop-extent
invariant-loop-extent l =
    are_lawful (bmbt_shape l.ino) (volume_of l.g) (option_copied l.before) (drop l.extent-index l.extents) ≡ are_lawful (bmbt_shape l.ino) (volume_of l.g) None l.extents
