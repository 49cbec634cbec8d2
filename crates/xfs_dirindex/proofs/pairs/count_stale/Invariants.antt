use Rattle.std.proofs.Common.{◌≡◌, ◌≤◌, count_by, take}
use Rattle.xfs_dirindex.specs.Pairs.{is_stale}
use Rattle.xfs_dirindex.proofs.pairs.count_stale.Given as goal

abbrev pub invariant-loop-pair : goal.invariant-loop-pair
invariant-loop-pair l = (l.count ≤ l.pair-index) × (l.count ≡ count_by is_stale (take l.pair-index l.pairs))
