use Rattle.std.proofs.Common.{◌≡◌, [], take, drop}
use Rattle.xfs_options.specs.SubOptions.{first_bad}
use Rattle.xfs_options.proofs.items.first_bad.Given as goal

abbrev pub invariant-loop-at : goal.invariant-loop-at
invariant-loop-at l = first_bad (take l.at l.items) (drop l.at l.items) ≡ first_bad [] l.items
