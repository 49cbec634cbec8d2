use Rattle.std.proofs.lemmas.List.Sorted.{All-permutation}
use Rattle.xfs_claims.specs.Private.Places.{IsFilePlace}
use Rattle.xfs_claims.proofs.Located.{files_in_order}
use Rattle.xfs_claims.proofs.ranks.places_in_order.Goals as goal

pub returns-clause-each : goal.returns-clause-each
returns-clause-each g c = All-permutation (IsFilePlace c.args.files.now) c.args.places.items c.sorted.result.items c.sorted.ensures.moved c.requires.each

pub returns-clause-ascending : goal.returns-clause-ascending
returns-clause-ascending g c =
    files_in_order c.args.files.now c.args.places.items c.sorted.result.items c.sorted.ensures.moved c.sorted.ensures.ascending c.requires.each c.requires.differ
