use Rattle.std.proofs.Common.{◌≡◌, ◌++◌}
use Rattle.std.specs.List.{filter, range_with_len}
use Rattle.xfs_filled.specs.FileTrees.{is_of, node_at}
use Rattle.xfs_filled.proofs.site.push_places.Given as goal

abbrev pub invariant-loop-k : goal.invariant-loop-k
invariant-loop-k l = record { all : l.order.items ≡ l.initial.order.items ++ filter (λ k. is_of l.directories (node_at l.nodes k).kind) (range_with_len 0 l.k) }
