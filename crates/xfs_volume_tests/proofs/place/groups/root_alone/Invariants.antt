use Rattle.std.proofs.Common.{◌≡◌, ◌<◌, ◌^◌, length, All}
use Rattle.xfs_volume_tests.proofs.place.groups.root_alone.Given as goal

abbrev pub invariant-loop-ag : goal.invariant-loop-ag
invariant-loop-ag l = record {
  many : length l.all.items ≡ l.ag;
  few : All (λ group. length group.records < 2 ^ 32) l.all.items;
}
