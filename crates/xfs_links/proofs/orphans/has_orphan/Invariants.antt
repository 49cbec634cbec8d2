use Rattle.std.proofs.Common.{◌≡◌, false, get_or}
use Rattle.std.specs.List.{list_any, range_with_len}
use Rattle.xfs_links.specs.Places.{orphan_told}
use Rattle.xfs_links.proofs.orphans.has_orphan.Given as goal

abbrev pub invariant-loop-place : goal.invariant-loop-place
invariant-loop-place l = list_any (λ p. orphan_told l.files l.root l.parents (get_or l.named p false) p) (range_with_len 0 l.place) ≡ false
