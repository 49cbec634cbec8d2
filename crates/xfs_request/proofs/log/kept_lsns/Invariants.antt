use Rattle.std.proofs.Common.{◌≡◌, ◌++◌, drop}
use Rattle.std.specs.List.{flat_map}
use Rattle.xfs_geom.specs.Volumes.{volume_of}
use Rattle.xfs_request.specs.Cycles.{lsn_listed}
use Rattle.xfs_request.proofs.log.kept_lsns.Given as goal

abbrev pub invariant-loop-slot : goal.invariant-loop-slot
invariant-loop-slot l =
    l.numbers.items ++ flat_map (lsn_listed (volume_of l.g) l.kept) (drop l.slot-index l.slots) ≡ flat_map (lsn_listed (volume_of l.g) l.kept) l.slots
