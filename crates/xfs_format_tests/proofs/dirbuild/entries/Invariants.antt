use Rattle.std.proofs.Common.{◌≡◌, length}
use Rattle.std.specs.List.{All}
use Rattle.xfs_dirbuild.specs.Names.{HasNameOfSix}
use Rattle.xfs_format_tests.proofs.dirbuild.entries.Given as goal

abbrev pub invariant-loop-number : goal.invariant-loop-number
invariant-loop-number l = record {
  count : length l.entries.items ≡ l.number;
  each : All HasNameOfSix l.entries.items;
}
