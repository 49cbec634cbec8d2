use Rattle.std.proofs.Common.{◌≡◌, ◌++◌, take}
use Rattle.xfs_geom.specs.Volumes.{volume_of}
use Rattle.xfs_place.specs.Chunks.{asked_pool, rooms_below}
use Rattle.xfs_place.proofs.chunk_search.push_rooms.Given as goal

abbrev pub invariant-loop-i : goal.invariant-loop-i
invariant-loop-i l = l.starts.items ≡ take l.ask.count (l.fn.starts.items ++ rooms_below (volume_of l.ask.geometry) (asked_pool l.ask) l.ask.size l.ask.from l.ag l.i)
