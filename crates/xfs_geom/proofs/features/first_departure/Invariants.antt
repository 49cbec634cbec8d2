use Rattle.std.proofs.Common.{◌≡◌, drop, map}
use Rattle.xfs_geom.specs.Features.{first_departure}
use Rattle.xfs_geom.specs.Private.Words.{feature_word}
use Rattle.xfs_geom.proofs.features.first_departure.Given as goal

abbrev pub invariant-loop-feature : goal.invariant-loop-feature
invariant-loop-feature l =
    first_departure (map feature_word (drop l.feature-index l.features)) l.sector
    ≡ first_departure (map feature_word l.features) l.sector
