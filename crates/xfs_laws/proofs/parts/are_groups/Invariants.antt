use Rattle.std.proofs.Common.{◌≡◌, ◌↔◌, drop}
use Rattle.xfs_geom.specs.Volumes.{volume_of}
use Rattle.xfs_space.specs.Parts.{AreGroups}
use Rattle.xfs_laws.proofs.parts.are_groups.Given as goal

abbrev pub invariant-loop-group : goal.invariant-loop-group
invariant-loop-group l = record {
  number : l.ag ≡ l.group-index;
  left : AreGroups (volume_of l.g) l.ag (drop l.group-index l.groups) ↔ AreGroups (volume_of l.g) 0 l.groups;
}
