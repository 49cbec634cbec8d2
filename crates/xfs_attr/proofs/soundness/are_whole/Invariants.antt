use Rattle.std.proofs.Common.{◌≡◌, ℕ, ◌+◌, ◌<◌, ◌≤◌, true}
use Rattle.std.specs.List.{list_all}
use Rattle.xfs_attr.specs.Leaf.{leaf_entry_at, entries, leaf_entry_size, is_whole_entry}
use Rattle.xfs_attr.proofs.soundness.are_whole.Given as goal

abbrev pub invariant-loop-index : goal.invariant-loop-index
invariant-loop-index l = record {
  whole : list_all (is_whole_entry l.block l.first) (entries l.block l.index) ≡ true;
  room : 0 < l.index → l.first ≤ 4096;
  each : (i : ℕ) → i < l.index → (leaf_entry_at l.block i).nameidx + leaf_entry_size l.block (leaf_entry_at l.block i) ≤ 4096;
}
