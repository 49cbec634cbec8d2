use Rattle.std.proofs.Common.{◌≡◌, ◌==◌, ◌&&◌, ◌++◌, not, false, get_or}
use Rattle.std.specs.List.{filter, range_with_len}
use Rattle.xfs_links.specs.Entries.{is_directory_at_place}
use Rattle.xfs_links.specs.Places.{are_equal}
use Rattle.xfs_links.proofs.walk.push_starts.Given as goal

abbrev pub invariant-loop-place : goal.invariant-loop-place
invariant-loop-place l = l.starts.items ≡ l.fn.starts.items ++ filter (λ p. is_directory_at_place l.files p && (not (p == l.root) && are_equal l.is_named (get_or l.named p false))) (range_with_len 0 l.place)
