use Rattle.std.proofs.Common.{◌≡◌, [], drop}
use Rattle.xfs_claims.specs.Private.Arrived.{arrived}
use Rattle.xfs_claims.proofs.arriving.through_set.Given as goal

abbrev pub invariant-loop-number : goal.invariant-loop-number
invariant-loop-number l = arrived l.set.keys (drop l.number-index l.numbers) ≡ arrived [] l.numbers
