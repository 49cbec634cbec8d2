use Rattle.std.proofs.Common.{◌≡◌, ◌++◌, drop}
use Rattle.xfs_options.specs.SubOptions.{items_given}
use Rattle.xfs_options.proofs.items.items_given.Given as goal

abbrev pub invariant-loop-option : goal.invariant-loop-option
invariant-loop-option l = l.items.items ++ items_given (drop l.option-index l.given) ≡ items_given l.given
