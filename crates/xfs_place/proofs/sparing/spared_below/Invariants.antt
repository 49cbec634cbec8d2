use Rattle.std.proofs.Common.{◌≡◌, ◌-◌, length}
use Rattle.xfs_place.specs.Pool.{is_open, use_at}
use Rattle.xfs_place.specs.Sparing.{spared_below}
use Rattle.xfs_place.proofs.sparing.spared_below.Given as goal

abbrev pub invariant-loop-i : goal.invariant-loop-i
invariant-loop-i l = spared_below (λ block. is_open (use_at l.uses block)) l.room (length l.uses) ≡ spared_below (λ block. is_open (use_at l.uses block)) l.left (length l.uses - l.i)
