use Rattle.std.proofs.Common.{◌≡◌, map, drop}
use Rattle.xfs_geom.specs.Volumes.{volume_of}
use Rattle.xfs_volume.specs.Laws.{first_difference}
use Rattle.xfs_laws.specs.Counting.{chunk_number, due_chunk}
use Rattle.xfs_laws.proofs.chunks.check_chunks.Given as goal

abbrev pub invariant-loop-chunk : goal.invariant-loop-chunk
invariant-loop-chunk l =
    let due = due_chunk (volume_of l.g) l.files l.ag in
    first_difference (map chunk_number (drop l.chunk-index l.chunks)) (map chunk_number (map due (drop l.chunk-index l.chunks)))
    ≡ first_difference (map chunk_number l.chunks) (map chunk_number (map due l.chunks))
