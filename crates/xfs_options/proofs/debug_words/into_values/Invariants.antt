use Rattle.std.proofs.Common.{◌≡◌}
use Rattle.xfs_options.specs.DebugWords.{values_of}
use Rattle.xfs_options.proofs.debug_words.into_values.Given as goal

abbrev pub invariant-loop-given : goal.invariant-loop-given
invariant-loop-given l = l.values.items ≡ values_of l.letter l.yielded
