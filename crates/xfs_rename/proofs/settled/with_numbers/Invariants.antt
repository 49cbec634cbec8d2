use Rattle.std.proofs.Common.{◌≡◌, drop}
use Rattle.xfs_rename.specs.Settled.{with_numbers}
use Rattle.xfs_rename.proofs.settled.with_numbers.Given as goal

abbrev pub invariant-loop-number : goal.invariant-loop-number
invariant-loop-number l = with_numbers (drop l.number-index l.more) l.numbers.items ≡ with_numbers l.more l.fn.numbers.items
