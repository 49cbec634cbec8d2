use Rattle.std.proofs.Common.{◌≡◌, ℕ, ◌/◌, ◌==◌, map, get_or}
use Rattle.std.specs.List.{filter, range_with_len}
use Rattle.xfs_geom.specs.Volumes.{volume_of}
use Rattle.xfs_filled.specs.Chunks.{chunk_record}
use Rattle.xfs_filled.proofs.chunks.list_chunks.Given as goal

abbrev pub invariant-loop-c : goal.invariant-loop-c
invariant-loop-c l = record {
  all : l.records.items
      ≡ map (chunk_record (volume_of l.g) l.files l.starts) (filter (λ (c : ℕ). get_or l.starts c 0 / l.g.agblocks == l.ag) (range_with_len 0 l.c));
}
