use Rattle.std.proofs.Common.{◌≡◌}
use Rattle.std.specs.List.{filter_map, range_with_len}
use Rattle.xfs_links.specs.Places.{listed_pair}
use Rattle.xfs_links.proofs.remaining.listed_parents.Given as goal

abbrev pub invariant-loop-place : goal.invariant-loop-place
invariant-loop-place l = l.listed.items ≡ filter_map (listed_pair l.files l.parents) (range_with_len 0 l.place)
