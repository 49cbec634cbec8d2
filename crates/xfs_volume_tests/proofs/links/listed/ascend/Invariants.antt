use Rattle.std.proofs.Common.{drop}
use Rattle.xfs_links.specs.Entries.{NodesAscend}
use Rattle.xfs_volume_tests.proofs.links.listed.ascend.Given as goal

abbrev pub invariant-loop-file : goal.invariant-loop-file
invariant-loop-file l = NodesAscend l.low (drop l.file-index l.files) → NodesAscend 0 l.files
