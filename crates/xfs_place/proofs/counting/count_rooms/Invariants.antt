use Rattle.std.proofs.Common.{◌≡◌, ◌≤◌, ◌+◌, ◌*◌, ◌^◌, drop, map, sum}
use Rattle.xfs_place.specs.Counts.{room_placed}
use Rattle.xfs_place.proofs.counting.count_rooms.Given as goal

abbrev pub invariant-loop-group : goal.invariant-loop-group
invariant-loop-group l = record {
  blocks' : l.blocks + sum (map room_placed (drop l.group-index l.groups)) ≡ sum (map room_placed l.groups);
  few : l.blocks ≤ l.group-index * 2 ^ 100;
}
