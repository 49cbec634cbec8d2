use Rattle.std.proofs.Common.{◌≡◌, ◌++◌, ◌-◌}
use Rattle.std.specs.List.{range_with_len}
use Rattle.xfs_empty.specs.Bytes.{header_places}
use Rattle.xfs_empty.proofs.bytes.list_places.Given as goal

abbrev pub invariant-loop-ag : goal.invariant-loop-ag
invariant-loop-ag l = l.places.items ≡ header_places l.g.agblocks l.ag

abbrev pub invariant-loop-block : goal.invariant-loop-block
invariant-loop-block l = l.places.items ≡ header_places l.g.agblocks l.g.agcount ++ range_with_len 16 (l.block - 16)
