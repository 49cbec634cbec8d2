use Rattle.std.proofs.Common.{◌≡◌, map}
use Rattle.std.specs.List.{range_with_len}
use Rattle.xfs_geom.specs.Volumes.{volume_of}
use Rattle.xfs_filled.specs.Slots.{slot_of_index}
use Rattle.xfs_filled.proofs.slots.list_slots.Given as goal

abbrev pub invariant-loop-j : goal.invariant-loop-j
invariant-loop-j l = record {
  all : l.slots.items ≡ map (slot_of_index (volume_of l.site.geometry.now) l.stamp l.site.starts.now l.site.nodes.now l.site.contents.now l.runs) (range_with_len 0 l.j);
}
