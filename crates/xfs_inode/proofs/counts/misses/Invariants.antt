use Rattle.std.proofs.Common.{◌≡◌, drop}
use Rattle.std.specs.List.{list_all}
use Rattle.xfs_inode.specs.Files.{is_apart, range_of_block}
use Rattle.xfs_inode.proofs.counts.misses.Given as goal

abbrev pub invariant-loop-run : goal.invariant-loop-run
invariant-loop-run l = list_all (is_apart (range_of_block l.block)) (drop l.run-index l.runs) ≡ list_all (is_apart (range_of_block l.block)) l.runs
