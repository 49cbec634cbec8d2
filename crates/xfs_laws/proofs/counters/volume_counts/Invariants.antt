use Rattle.std.proofs.Common.{◌≡◌, ◌≤◌, ◌+◌, ◌*◌, ◌^◌, drop, map, sum}
use Rattle.xfs_geom.specs.Sums.{slots, free_slots}
use Rattle.xfs_volume.specs.declared.groups.GroupRec.{GroupRec}
use Rattle.xfs_laws.specs.Counting.{room}
use Rattle.xfs_laws.proofs.counters.volume_counts.Given as goal

abbrev pub invariant-loop-group : goal.invariant-loop-group
invariant-loop-group l = record {
  inodes : l.inodes + sum (map (λ (g : GroupRec). slots g.ino) (drop l.group-index l.groups)) ≡ sum (map (λ (g : GroupRec). slots g.ino) l.groups);
  free_inodes : l.free_inodes + sum (map (λ (g : GroupRec). free_slots g.ino) (drop l.group-index l.groups)) ≡ sum (map (λ (g : GroupRec). free_slots g.ino) l.groups);
  blocks : l.blocks + sum (map room (drop l.group-index l.groups)) ≡ sum (map room l.groups);
  few_inodes : l.inodes ≤ l.group-index * 2 ^ 72;
  few_free : l.free_inodes ≤ l.group-index * 2 ^ 72;
  few_blocks : l.blocks ≤ l.group-index * 2 ^ 100;
}
