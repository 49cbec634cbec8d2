use Rattle.std.proofs.Common.{◌≡◌, ◌*◌, ◌^◌, ◌≤◌}
use Rattle.std.specs.List.{sum_by}
use Rattle.xfs_attr.specs.Leaf.{entries, leaf_entry_size}
use Rattle.xfs_attr.proofs.soundness.used_bytes.Given as goal

abbrev pub invariant-loop-index : goal.invariant-loop-index
invariant-loop-index l = (l.used ≡ sum_by (leaf_entry_size l.block) (entries l.block l.index)) × (l.used ≤ 2 ^ 17 * l.index)
