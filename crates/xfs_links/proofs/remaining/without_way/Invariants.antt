use Rattle.std.proofs.Common.{◌≡◌, not, take}
use Rattle.std.specs.List.{filter}
use Rattle.xfs_links.specs.Places.{in_the_way_at}
use Rattle.xfs_links.proofs.remaining.without_way.Given as goal

abbrev pub invariant-loop-candidate : goal.invariant-loop-candidate
invariant-loop-candidate l = l.kept.items ≡ filter (λ c. not (in_the_way_at l.files l.entries l.root c)) (take l.candidate-index l.staying)
