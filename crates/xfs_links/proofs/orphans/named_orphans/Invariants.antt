use Rattle.std.proofs.Common.{◌≡◌, map}
use Rattle.std.specs.List.{filter, range_with_len}
use Rattle.xfs_links.specs.Places.{named_orphan_at, orphan_at}
use Rattle.xfs_links.proofs.orphans.named_orphans.Given as goal

abbrev pub invariant-loop-place : goal.invariant-loop-place
invariant-loop-place l = l.orphans.items ≡ map (named_orphan_at l.files l.entries l.kept l.fn.lost) (filter (orphan_at l.files l.root l.parents l.kept) (range_with_len 0 l.place))
