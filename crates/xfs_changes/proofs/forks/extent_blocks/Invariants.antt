use Rattle.std.proofs.Common.{◌≡◌, ◌≤◌, ◌+◌, ◌*◌, ◌^◌, drop}
use Rattle.std.specs.List.{sum_by}
use Rattle.xfs_word.specs.declared.extents.Extent.{Extent}
use Rattle.xfs_changes.proofs.forks.extent_blocks.Given as goal

abbrev pub invariant-loop-extent : goal.invariant-loop-extent
invariant-loop-extent l = record {
  left : l.blocks + sum_by (λ (e : Extent). e.count) (drop l.extent-index l.extents) ≡ sum_by (λ (e : Extent). e.count) l.extents;
  less : l.blocks ≤ l.extent-index * 2 ^ 64;
}
