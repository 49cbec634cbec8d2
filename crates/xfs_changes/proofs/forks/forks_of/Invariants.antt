use Rattle.std.proofs.Common.{◌≡◌, ◌++◌, drop}
use Rattle.xfs_geom.specs.Volumes.{volume_of}
use Rattle.xfs_changes.specs.Forks.{forks_of}
use Rattle.xfs_changes.proofs.forks.forks_of.Given as goal

abbrev pub invariant-loop-directory : goal.invariant-loop-directory
invariant-loop-directory l =
    l.forks.items ++ forks_of (volume_of l.g) l.files (drop l.directory-index l.built) l.cuts_left l.runs_left ≡ forks_of (volume_of l.g) l.files l.built l.cuts l.runs
