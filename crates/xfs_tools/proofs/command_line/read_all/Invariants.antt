use Rattle.std.proofs.Common.{◌≡◌, ◌+◌, drop}
use Rattle.xfs_tools.specs.CommandLine.{after_repair_words, repair_reading}
use Rattle.xfs_tools.proofs.command_line.read_all.Given as goal

abbrev pub invariant-loop-before : goal.invariant-loop-before
invariant-loop-before l = after_repair_words (l.before + 1) (drop l.before l.rest) l.reading ≡ repair_reading l.rest
