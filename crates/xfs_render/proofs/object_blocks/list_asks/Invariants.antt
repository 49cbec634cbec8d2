use Rattle.std.proofs.Common.{◌≡◌, take}
use Rattle.xfs_render.specs.Objects.{asks_with_kind}
use Rattle.xfs_render.proofs.object_blocks.list_asks.Given as goal

abbrev pub invariant-loop-object : goal.invariant-loop-object
invariant-loop-object l = record { all : l.asks.items ≡ asks_with_kind (take l.object-index l.objects) }
