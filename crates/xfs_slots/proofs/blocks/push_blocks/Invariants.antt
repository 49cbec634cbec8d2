use Rattle.std.proofs.Common.{◌≡◌, ◌<◌, ◌+◌, ◌-◌, ◌++◌}
use Rattle.std.specs.List.{All, range_with_len}
use Rattle.xfs_image.specs.Slots.{cluster_blocks}
use Rattle.xfs_slots.proofs.blocks.push_blocks.Given as goal

abbrev pub invariant-loop-i : goal.invariant-loop-i
invariant-loop-i l = record {
  blocks : l.blocks.items ++ range_with_len (l.cluster + l.i) (4 - l.i) ≡ l.fn.blocks.items ++ cluster_blocks l.cluster;
  low : All (λ block. block < l.end) l.blocks.items;
}
