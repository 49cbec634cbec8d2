use Rattle.std.proofs.Common.{◌≡◌, ◌++◌, take}
use Rattle.xfs_empty.specs.Bytes.{header_places}
use Rattle.xfs_filled.specs.Wanting.{blocks_of_chunks}
use Rattle.xfs_filled.proofs.bytes.list_places.Given as goal

abbrev pub invariant-loop-ag : goal.invariant-loop-ag
invariant-loop-ag l = l.places.items ≡ header_places l.g.agblocks l.ag

abbrev pub invariant-loop-start : goal.invariant-loop-start
invariant-loop-start l = record { all : l.places.items ≡ header_places l.g.agblocks l.g.agcount ++ blocks_of_chunks (take l.start-index l.starts) }
