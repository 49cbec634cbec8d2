use Rattle.std.proofs.Common.{◌≡◌, ℕ, ◌+◌, ◌%◌, ◌<◌, ◌≤◌, get_or, length}
use Rattle.xfs_heads.specs.FreeList.{entry}
use Rattle.xfs_heads.proofs.free_list.stated.Given as goal

abbrev pub invariant-loop-index : goal.invariant-loop-index
invariant-loop-index l = record {
  long : length l.entries ≡ 119;
  active : (k : ℕ) → k < l.index → get_or l.entries k 0 ≡ entry l.sector ((l.agf.flfirst + k) % 119);
  unused : (k : ℕ) → l.index ≤ k → k < 119 → get_or l.entries k 0 ≡ 0xffff_ffff;
}
