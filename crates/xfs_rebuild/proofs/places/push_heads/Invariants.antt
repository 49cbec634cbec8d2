use Rattle.std.proofs.Common.{◌≡◌, ◌<◌, ◌-◌, ◌++◌, map}
use Rattle.std.specs.List.{All, range_with_len}
use Rattle.xfs_geom.specs.Volumes.{volume_of}
use Rattle.xfs_rebuild.specs.Places.{first_of_group}
use Rattle.xfs_rebuild.proofs.places.push_heads.Given as goal

abbrev pub invariant-loop-ag : goal.invariant-loop-ag
invariant-loop-ag l = record {
  more : l.places.items ++ map (first_of_group (volume_of l.g)) (range_with_len l.ag (l.g.agcount - l.ag)) ≡ l.fn.places.items ++ map (first_of_group (volume_of l.g)) (range_with_len 0 l.g.agcount);
  low : All (λ place. place < l.g.dblocks) l.places.items;
}
