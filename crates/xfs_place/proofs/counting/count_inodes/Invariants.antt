use Rattle.std.proofs.Common.{◌≡◌, ◌≤◌, ◌+◌, ◌*◌, ◌^◌, drop, map, sum}
use Rattle.xfs_geom.specs.Sums.{slots, free_slots}
use Rattle.xfs_place.specs.declared.wanted.GroupInodes.{GroupInodes}
use Rattle.xfs_place.proofs.counting.count_inodes.Given as goal

abbrev pub invariant-loop-group : goal.invariant-loop-group
invariant-loop-group l = record {
  all' : l.all + sum (map (λ (g : GroupInodes). slots g.records) (drop l.group-index l.inodes)) ≡ sum (map (λ (g : GroupInodes). slots g.records) l.inodes);
  free' : l.free + sum (map (λ (g : GroupInodes). free_slots g.records) (drop l.group-index l.inodes)) ≡ sum (map (λ (g : GroupInodes). free_slots g.records) l.inodes);
  few_all : l.all ≤ l.group-index * 2 ^ 40;
  few_free : l.free ≤ l.group-index * 2 ^ 40;
}
