use Rattle.std.proofs.Common.{◌≡◌, ℕ, ◌<◌, ◌≤◌, get_or, length}
use Rattle.xfs_heads.proofs.free_list.Agfl.new.Given as goal

abbrev pub invariant-loop-index : goal.invariant-loop-index
invariant-loop-index l = record {
  long : length l.entries ≡ 119;
  active : (k : ℕ) → k < l.index → get_or l.entries k 0 ≡ get_or l.ag_blocks k 0;
  unused : (k : ℕ) → l.index ≤ k → k < 119 → get_or l.entries k 0 ≡ 0xffff_ffff;
}
