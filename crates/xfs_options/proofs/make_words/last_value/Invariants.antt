use Rattle.std.proofs.Common.{◌≡◌, drop}
use Rattle.std.specs.Option.{option_copied}
use Rattle.xfs_options.specs.MakeWords.{last_from, last_value}
use Rattle.xfs_options.proofs.make_words.last_value.Given as goal

abbrev pub invariant-loop-option : goal.invariant-loop-option
invariant-loop-option l = last_from l.letter (option_copied l.last) (drop l.option-index l.given) ≡ last_value l.letter l.given
