use Rattle.std.proofs.Common.{◌≡◌, false}
use Rattle.std.specs.List.{list_any, range_with_len}
use Rattle.xfs_geom.specs.Volumes.{volume_of}
use Rattle.xfs_rebuild.specs.Places.{is_slot_wanted}
use Rattle.xfs_rebuild.proofs.places.has_wanted.Given as goal

abbrev pub invariant-loop-k : goal.invariant-loop-k
invariant-loop-k l = list_any (is_slot_wanted (volume_of l.g) l.slots l.block) (range_with_len 0 l.k) ≡ false
