use Rattle.std.proofs.Common.{◌≡◌, ◌<◌, ◌+◌, ◌-◌, ◌++◌, filter}
use Rattle.std.specs.List.{All, range_with_len}
use Rattle.xfs_geom.specs.Volumes.{volume_of}
use Rattle.xfs_image.specs.Slots.{cluster_blocks}
use Rattle.xfs_rebuild.specs.Places.{has_wanted}
use Rattle.xfs_rebuild.proofs.places.push_cluster.Given as goal

abbrev pub invariant-loop-i : goal.invariant-loop-i
invariant-loop-i l = record {
  more : l.places.items ++ filter (has_wanted (volume_of l.g) l.slots) (range_with_len (l.cluster + l.i) (4 - l.i))
      ≡ l.fn.places.items ++ filter (has_wanted (volume_of l.g) l.slots) (cluster_blocks l.cluster);
  low : All (λ place. place < l.g.dblocks) l.places.items;
}
