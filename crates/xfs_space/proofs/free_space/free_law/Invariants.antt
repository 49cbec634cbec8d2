use Rattle.std.proofs.Common.{◌≡◌, ◌*◌, drop}
use Rattle.xfs_geom.specs.Volumes.{volume_of}
use Rattle.xfs_volume.specs.Laws.{first_broken}
use Rattle.xfs_space.specs.SpaceLaws.{free_laws}
use Rattle.xfs_space.proofs.FreeLaws.{Rest}
use Rattle.xfs_space.proofs.free_space.free_law.Given as goal

abbrev pub invariant-loop-index : goal.invariant-loop-index
invariant-loop-index l = record {
  law : first_broken (free_laws (volume_of l.g) l.runs l.index (drop l.index l.groups)) ≡ first_broken (free_laws (volume_of l.g) l.runs 0 l.groups);
  rest : Rest (volume_of l.g) (l.index * l.g.agblocks) l.runs l.rest;
}
