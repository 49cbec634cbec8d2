use Rattle.std.proofs.Common.{◌↔◌, drop}
use Rattle.xfs_naming.specs.Naming.{NumbersAscend}
use Rattle.xfs_rebuild.proofs.seen.ascend.Given as goal

abbrev pub invariant-loop-number : goal.invariant-loop-number
invariant-loop-number l = NumbersAscend l.least (drop l.number-index l.numbers) ↔ NumbersAscend 0 l.numbers
