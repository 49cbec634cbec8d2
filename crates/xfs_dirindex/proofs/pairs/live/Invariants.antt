use Rattle.std.proofs.Common.{◌≡◌, take, filter}
use Rattle.xfs_dirindex.specs.Pairs.{is_live}
use Rattle.xfs_dirindex.proofs.pairs.live.Given as goal

abbrev pub invariant-loop-pair : goal.invariant-loop-pair
invariant-loop-pair l = l.live.items ≡ filter is_live (take l.pair-index l.pairs)
