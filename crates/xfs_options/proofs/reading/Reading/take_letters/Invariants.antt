use Rattle.std.proofs.Common.{◌≡◌, drop}
use Rattle.xfs_options.specs.Words.{after_letters}
use Rattle.xfs_options.specs.declared.reading.Expected.TheVariants.{Options}
use Rattle.xfs_options.proofs.reading.Reading.take_letters.Given as goal

abbrev pub invariant-loop-before : goal.invariant-loop-before
invariant-loop-before l = record {
  place : l.self.place ≡ Options;
  rest : after_letters l.rows l.at (drop l.before l.letters) l.self.given.items ≡ after_letters l.rows l.at l.letters l.fn.self.given.items;
}
