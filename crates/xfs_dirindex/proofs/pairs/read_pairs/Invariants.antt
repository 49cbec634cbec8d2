use Rattle.std.proofs.Common.{◌≡◌, ◌+◌, ◌*◌, map}
use Rattle.std.specs.List.{range_with_len}
use Rattle.xfs_dirindex.specs.Pairs.{pair_at}
use Rattle.xfs_dirindex.proofs.pairs.read_pairs.Given as goal

abbrev pub invariant-loop-k : goal.invariant-loop-k
invariant-loop-k l = l.pairs.items ≡ map (λ k. pair_at l.bytes (l.at + 8 * k)) (range_with_len 0 l.k)
