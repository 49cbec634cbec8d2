use Rattle.std.proofs.Common.{◌+◌, take}
use Rattle.xfs_place.specs.Pool.{MarksUses, is_listed}
use Rattle.xfs_place.specs.declared.uses.Use.TheVariants.{Reserved}
use Rattle.xfs_place.proofs.uses.reserve.Given as goal

abbrev pub invariant-loop-block : goal.invariant-loop-block
invariant-loop-block l = MarksUses l.fn.uses l.uses (λ b. is_listed (take l.block-index l.reserved) (l.from + b)) Reserved
