use Rattle.std.proofs.Common.{◌≡◌, map, drop}
use Rattle.std.specs.List.{list_any}
use Rattle.xfs_mkfs.specs.Marks.{mark_of, stands_at}
use Rattle.xfs_mkfs.proofs.marks.bears_one.Given as goal

abbrev pub invariant-loop-mark : goal.invariant-loop-mark
invariant-loop-mark l =
    list_any (stands_at l.at l.block) (map mark_of (drop l.mark-index l.marks)) ≡ list_any (stands_at l.at l.block) (map mark_of l.marks)
