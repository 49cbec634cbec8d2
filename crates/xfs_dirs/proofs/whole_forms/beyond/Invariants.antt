use Rattle.std.proofs.Common.{◌≡◌, ◌≤◌, count_by, nat_le, take}
use Rattle.xfs_dirs.proofs.whole_forms.beyond.Given as goal

abbrev pub invariant-loop-offset : goal.invariant-loop-offset
invariant-loop-offset l = (l.count ≤ l.offset-index) × (l.count ≡ count_by (nat_le 0x800000) (take l.offset-index l.offsets))
