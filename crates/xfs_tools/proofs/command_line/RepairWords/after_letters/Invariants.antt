use Rattle.std.proofs.Common.{◌≡◌, drop}
use Rattle.xfs_tools.specs.CommandLine.{after_repair_letters}
use Rattle.xfs_tools.proofs.command_line.RepairWords.after_letters.Given as goal

abbrev pub invariant-loop-before : goal.invariant-loop-before
invariant-loop-before l = after_repair_letters l.at (drop l.before l.letters) l.options ≡ after_repair_letters l.at l.letters l.fn.self
