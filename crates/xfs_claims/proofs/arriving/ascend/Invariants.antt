use Rattle.std.proofs.Common.{drop}
use Rattle.xfs_claims.specs.Private.Arrived.{AscendFrom}
use Rattle.xfs_claims.proofs.arriving.ascend.Given as goal

abbrev pub invariant-loop-number : goal.invariant-loop-number
invariant-loop-number l = AscendFrom l.least (drop l.number-index l.numbers) → AscendFrom 0 l.numbers
