use Rattle.std.proofs.Common.{◌≡◌, map, take}
use Rattle.xfs_links.specs.Places.{candidate_entry}
use Rattle.xfs_links.proofs.remaining.copied.Given as goal

abbrev pub invariant-loop-candidate : goal.invariant-loop-candidate
invariant-loop-candidate l = l.copies.items ≡ map (candidate_entry l.entries) (take l.candidate-index l.candidates)
