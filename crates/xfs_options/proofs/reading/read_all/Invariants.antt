use Rattle.std.proofs.Common.{◌≡◌, ◌+◌, drop}
use Rattle.xfs_options.specs.Words.{after_words, held, reading_of_words}
use Rattle.xfs_options.proofs.reading.read_all.Given as goal

abbrev pub invariant-loop-before : goal.invariant-loop-before
invariant-loop-before l = after_words l.rows (l.before + 1) (drop l.before l.rest) (held l.reading) ≡ reading_of_words l.rows l.rest
