use Rattle.std.proofs.Common.{◌≡◌, ◌++◌, ◌*◌, drop}
use Rattle.xfs_geom.specs.Volumes.{volume_of}
use Rattle.xfs_space.specs.Owners.{groups_runs}
use Rattle.xfs_space.specs.Parts.{AreGroups}
use Rattle.xfs_space.proofs.owned_groups.push_groups.Given as goal

abbrev pub invariant-loop-ag : goal.invariant-loop-ag
invariant-loop-ag l = record {
  same : l.runs.items ++ groups_runs l.g.agblocks (l.ag * l.g.agblocks) (drop l.ag l.groups) ≡ l.fn.runs.items ++ groups_runs l.g.agblocks 0 l.groups;
  groups : AreGroups (volume_of l.g) l.ag (drop l.ag l.groups);
}
