use Rattle.std.proofs.Common.{◌≡◌, take}
use Rattle.std.specs.List.{flat_map, range_with_len}
use Rattle.xfs_geom.specs.Volumes.{volume_of}
use Rattle.xfs_place.specs.Chunks.{asked_pool, rooms_of}
use Rattle.xfs_place.specs.Windows.{IsWindow}
use Rattle.xfs_place.proofs.chunk_search.find_chunks.Given as goal

abbrev pub invariant-loop-ag : goal.invariant-loop-ag
invariant-loop-ag l = record {
  stands : IsWindow (volume_of l.ask.geometry) l.ask.taken l.ask.reserved l.window;
  found : l.starts.items ≡ take l.ask.count (flat_map (rooms_of (volume_of l.ask.geometry) (asked_pool l.ask) l.ask.size l.ask.from) (range_with_len 0 l.ag));
}
