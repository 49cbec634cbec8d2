use Rattle.std.proofs.Common.{◌≡◌, ◌+◌, ◌*◌, drop}
use Rattle.xfs_volume.specs.Laws.{first_broken}
use Rattle.xfs_laws.specs.Counting.{chains_at}
use Rattle.xfs_laws.proofs.log.check_group.Given as goal

abbrev pub invariant-loop-head : goal.invariant-loop-head
invariant-loop-head l = record {
  number : l.place ≡ 1 + 64 * l.ag + l.head-index;
  left : first_broken (chains_at l.place (drop l.head-index l.heads)) ≡ first_broken (chains_at (1 + 64 * l.ag) l.heads);
}
