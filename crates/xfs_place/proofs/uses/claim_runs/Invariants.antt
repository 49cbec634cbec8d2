use Rattle.std.proofs.Common.{drop, length, ◌+◌, ◌-◌}
use Rattle.xfs_place.specs.Pool.{PutsUses, use_held}
use Rattle.xfs_place.proofs.uses.claim_runs.Given as goal

abbrev pub invariant-loop-i : goal.invariant-loop-i
invariant-loop-i l = PutsUses l.fn.uses l.uses (λ b. use_held (drop (length l.runs - l.i) l.runs) (l.from + b))
