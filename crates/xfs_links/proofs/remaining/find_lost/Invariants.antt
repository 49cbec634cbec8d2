use Rattle.std.proofs.Common.{◌≡◌, ◌&&◌, drop}
use Rattle.std.specs.List.{find}
use Rattle.xfs_links.specs.Entries.{is_directory_at_place}
use Rattle.xfs_links.specs.Connected.{names_lost_found}
use Rattle.xfs_links.specs.Places.{candidate_entry}
use Rattle.xfs_links.proofs.remaining.find_lost.Given as goal

abbrev pub invariant-loop-candidate : goal.invariant-loop-candidate
invariant-loop-candidate l = find (λ c. names_lost_found l.root (candidate_entry l.entries c) && is_directory_at_place l.files c.target) (drop l.candidate-index l.candidates) ≡ find (λ c. names_lost_found l.root (candidate_entry l.entries c) && is_directory_at_place l.files c.target) l.candidates
