use Rattle.std.proofs.Common.{◌≡◌, ◌++◌, ◌-◌, ◌/◌}
use Rattle.std.specs.List.{flat_map, range_with_len}
use Rattle.xfs_geom.specs.Conversions.{group_length}
use Rattle.xfs_geom.specs.Volumes.{volume_of}
use Rattle.xfs_request.specs.Chunks.{chunk_listed}
use Rattle.xfs_request.proofs.chunks.kept_chunks.Given as goal

abbrev pub invariant-loop-c : goal.invariant-loop-c
invariant-loop-c l =
    l.chunks.items ++ flat_map (chunk_listed (volume_of l.g) l.kept l.ag) (range_with_len l.c (group_length (volume_of l.g) l.ag / 8 - l.c))
    ≡ flat_map (chunk_listed (volume_of l.g) l.kept l.ag) (range_with_len 1 (group_length (volume_of l.g) l.ag / 8 - 1))
