use Rattle.std.proofs.Common.{◌≡◌, ◌≤◌, length, map, filter, drop}
use Rattle.xfs_geom.specs.Sums.{has_free}
use Rattle.xfs_volume.specs.Laws.{first_difference}
use Rattle.xfs_laws.specs.Counting.{chunk_number}
use Rattle.xfs_laws.proofs.chunks.check_free_chunks.Given as goal

abbrev pub invariant-loop-chunk : goal.invariant-loop-chunk
invariant-loop-chunk l = record {
  within : l.at ≤ length l.held;
  left :
      first_difference (map chunk_number (drop l.at l.held)) (map chunk_number (filter has_free (drop l.chunk-index l.chunks)))
      ≡ first_difference (map chunk_number l.held) (map chunk_number (filter has_free l.chunks));
}
