use Rattle.std.proofs.Common.{◌≡◌, ◌++◌, drop, map}
use Rattle.xfs_geom.specs.Volumes.{volume_of}
use Rattle.xfs_views.specs.xfs_space.Owners.{extent_run}
use Rattle.xfs_salvage.proofs.runs.push_extents.Given as goal

abbrev pub invariant-loop-extent : goal.invariant-loop-extent
invariant-loop-extent l = l.runs.items ++ map (extent_run (volume_of l.g) l.ino l.flag) (drop l.extent-index l.extents) ≡ l.fn.runs.items ++ map (extent_run (volume_of l.g) l.ino l.flag) l.extents
