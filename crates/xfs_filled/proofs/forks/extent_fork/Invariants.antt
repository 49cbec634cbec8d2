use Rattle.std.proofs.Common.{◌≡◌, ◌*◌, ◌≤◌, take}
use Rattle.std.specs.List.{flat_map, sum_by}
use Rattle.xfs_word.specs.Extent.{packed}
use Rattle.xfs_word.specs.declared.extents.Extent.{Extent}
use Rattle.xfs_filled.proofs.forks.extent_fork.Given as goal

abbrev pub invariant-loop-extent : goal.invariant-loop-extent
invariant-loop-extent l = record {
  bytes : l.bytes.items ≡ flat_map packed (take l.extent-index l.extents);
  sum' : l.nblocks ≡ sum_by (λ (e : Extent). e.count) (take l.extent-index l.extents);
  few : l.nblocks ≤ 2097152 * l.extent-index;
}
