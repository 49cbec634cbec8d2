use Rattle.std.proofs.Common.{◌+◌, ◌*◌, ◌%◌, ◌==◌, ◌&&◌, nat_lt}
use Rattle.xfs_place.specs.Pool.{MarksUses}
use Rattle.xfs_place.specs.declared.uses.Use.TheVariants.{Claimed}
use Rattle.xfs_place.proofs.uses.claim_headers.Given as goal

abbrev pub invariant-loop-ag : goal.invariant-loop-ag
invariant-loop-ag l = MarksUses l.fn.uses l.uses (λ b. (l.from + b) % l.g.agblocks == 0 && nat_lt (l.from + b) (l.ag * l.g.agblocks)) Claimed
