use Rattle.xfs_geom.specs.Volumes.{volume_of}
use Rattle.xfs_space.proofs.OwnerLaws.{Alike}
use Rattle.xfs_space.proofs.recorded.owner_law.Given as goal

abbrev pub invariant-loop-index : goal.invariant-loop-index
invariant-loop-index l = Alike (volume_of l.g) l.groups l.runs l.rest l.index
