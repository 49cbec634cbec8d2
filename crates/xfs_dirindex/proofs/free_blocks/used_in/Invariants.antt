use Rattle.std.proofs.Common.{◌≡◌, ◌≤◌, count_by}
use Rattle.std.specs.List.{range_with_len}
use Rattle.xfs_dirindex.specs.FreeBlocks.{is_used_value}
use Rattle.xfs_dirindex.proofs.free_blocks.used_in.Given as goal

abbrev pub invariant-loop-j : goal.invariant-loop-j
invariant-loop-j l = record {
  few : l.used ≤ l.j;
  counted : l.used ≡ count_by (is_used_value l.bytes) (range_with_len 0 l.j);
}
