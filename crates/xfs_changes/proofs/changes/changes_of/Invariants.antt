use Rattle.std.proofs.Common.{◌≡◌, ◌++◌, drop}
use Rattle.std.specs.List.{flat_map}
use Rattle.xfs_geom.specs.Volumes.{volume_of}
use Rattle.xfs_changes.specs.Slots.{change_listed}
use Rattle.xfs_changes.proofs.changes.changes_of.Given as goal

abbrev pub invariant-loop-link : goal.invariant-loop-link
invariant-loop-link l =
    l.changes.items ++ flat_map (change_listed (volume_of l.ways.g.now) l.ways.stamp.now l.ways.lost.now l.ways.files.now l.ways.forks.now) (drop l.link-index l.links)
    ≡ flat_map (change_listed (volume_of l.ways.g.now) l.ways.stamp.now l.ways.lost.now l.ways.files.now l.ways.forks.now) l.links
