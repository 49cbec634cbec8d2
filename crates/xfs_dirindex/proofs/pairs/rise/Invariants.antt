use Rattle.std.proofs.Common.{◌≡◌, drop}
use Rattle.xfs_dirindex.specs.Pairs.{rises}
use Rattle.xfs_dirindex.proofs.pairs.rise.Given as goal

abbrev pub invariant-loop-pair : goal.invariant-loop-pair
invariant-loop-pair l = rises l.least (drop l.pair-index l.pairs) ≡ rises 0 l.pairs
