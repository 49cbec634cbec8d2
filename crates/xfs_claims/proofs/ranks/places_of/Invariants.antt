use Rattle.std.proofs.Common.{not}
use Rattle.xfs_disk.specs.Lists.{is_among}
use Rattle.xfs_claims.specs.Private.Places.{ArePlaces}
use Rattle.xfs_claims.proofs.ranks.places_of.Given as goal

abbrev pub invariant-loop-at : goal.invariant-loop-at
invariant-loop-at l =
    ArePlaces l.files (λ f. is_among l.recorded.keys f.cluster) l.at l.places.recorded.items
    × ArePlaces l.files (λ f. not (is_among l.recorded.keys f.cluster)) l.at l.places.scanned.items
