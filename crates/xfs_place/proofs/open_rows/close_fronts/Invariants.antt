use Rattle.std.proofs.Common.{◌*◌, ◌%◌, ◌&&◌, nat_lt}
use Rattle.xfs_place.specs.Pool.{MarksUses}
use Rattle.xfs_place.specs.declared.uses.Use.TheVariants.{Claimed}
use Rattle.xfs_place.proofs.open_rows.close_fronts.Given as goal

abbrev pub invariant-loop-ag : goal.invariant-loop-ag
invariant-loop-ag l = MarksUses l.fn.uses l.uses (λ block. nat_lt (block % l.g.agblocks) l.from && nat_lt block (l.ag * l.g.agblocks)) Claimed
