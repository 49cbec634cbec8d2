use Rattle.std.proofs.Common.{◌≡◌, take, map}
use Rattle.xfs_filled.specs.Chunks.{chunk_at}
use Rattle.xfs_filled.proofs.chunks.list_runs.Given as goal

abbrev pub invariant-loop-start : goal.invariant-loop-start
invariant-loop-start l = record { all : l.runs.items ≡ map chunk_at (take l.start-index l.starts) }
