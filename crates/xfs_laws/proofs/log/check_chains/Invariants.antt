use Rattle.std.proofs.Common.{◌≡◌, drop}
use Rattle.xfs_volume.specs.Laws.{first_broken}
use Rattle.xfs_laws.specs.Counting.{by_group, group_chains}
use Rattle.xfs_laws.proofs.log.check_chains.Given as goal

abbrev pub invariant-loop-group : goal.invariant-loop-group
invariant-loop-group l = record {
  number : l.ag ≡ l.group-index;
  left : first_broken (by_group group_chains l.ag (drop l.group-index l.groups)) ≡ first_broken (by_group group_chains 0 l.groups);
}
