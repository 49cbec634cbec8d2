use Rattle.std.proofs.Common.{◌≡◌, ◌++◌, ◌-◌, ◌≤◌}
use Rattle.std.specs.List.{range_with_len}
use Rattle.xfs_filled.proofs.bytes.push_chunk.Given as goal

abbrev pub invariant-loop-block : goal.invariant-loop-block
invariant-loop-block l = record {
  all : l.places.items ≡ l.initial.places.items ++ range_with_len l.start (l.block - l.start);
  from : l.start ≤ l.block;
}
