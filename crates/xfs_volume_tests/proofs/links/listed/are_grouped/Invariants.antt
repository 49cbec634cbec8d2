use Rattle.std.proofs.Common.{drop}
use Rattle.xfs_links.specs.Entries.{DirectoriesAscend}
use Rattle.xfs_volume_tests.proofs.links.listed.are_grouped.Given as goal

abbrev pub invariant-loop-entry : goal.invariant-loop-entry
invariant-loop-entry l = DirectoriesAscend l.low (drop l.entry-index l.entries) → DirectoriesAscend 0 l.entries
