use Rattle.std.proofs.Common.{◌≡◌, ◌+◌, map, take}
use Rattle.xfs_place.proofs.group_lists.take_blocks.Given as goal

abbrev pub invariant-loop-block : goal.invariant-loop-block
invariant-loop-block l = l.places.items ≡ map (λ block. l.base + block) (take l.block-index l.part)
