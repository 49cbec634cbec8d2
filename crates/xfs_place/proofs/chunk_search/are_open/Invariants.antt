use Rattle.std.proofs.Common.{◌≡◌, ℕ, ◌≤◌, ◌<◌, true}
use Rattle.xfs_place.specs.Pool.{is_open, use_at}
use Rattle.xfs_place.proofs.chunk_search.are_open.Given as goal

abbrev pub invariant-loop-block : goal.invariant-loop-block
invariant-loop-block l = (b : ℕ) → l.start ≤ b → b < l.block → is_open (use_at l.uses b) ≡ true
