use Rattle.std.proofs.Common.{◌≡◌, ◌+◌, ◌*◌, ◌≤◌, drop, take, map}
use Rattle.std.specs.List.{sum_by}
use Rattle.xfs_claims.specs.Private.Held.{held_of}
use Rattle.xfs_claims.specs.Keeping.{with_files}
use Rattle.xfs_claims.specs.Private.Places.{file_at_place}
use Rattle.xfs_claims.specs.Ranks.{run_count}
use Rattle.xfs_claims.proofs.holding.TakenBlocks.keep_files.Given as goal

abbrev pub invariant-loop-place : goal.invariant-loop-place
invariant-loop-place g l =
    (with_files (held_of l.self) (map (file_at_place l.files) (drop l.place-index l.places)) ≡ with_files (held_of l.fn.self) (map (file_at_place l.files) l.places))
    × (l.steps ≤ l.fn.steps + 2 * sum_by run_count (map (file_at_place l.files) (take l.place-index l.places)))
