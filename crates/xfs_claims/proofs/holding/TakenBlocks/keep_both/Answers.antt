use Rattle.std.proofs.Common.{◌≡◌, map, subst}
use Rattle.std.specs.Prelude.{OnOk}
use Rattle.xfs_claims.specs.Keeping.{Holding, with_files}
use Rattle.xfs_claims.specs.Private.Held.{held_of}
use Rattle.xfs_claims.specs.Private.Places.{file_at_place}
use Rattle.xfs_claims.proofs.Counted.{first_counted, both_counted}
use Rattle.xfs_claims.proofs.holding.TakenBlocks.keep_both.Goals as goal

pub keep_clusters-requires : goal.keep_clusters-requires
keep_clusters-requires g c = c.requires.clusters

pub keep_files-requires-clause-claims : goal.keep_files-requires-clause-claims
keep_files-requires-clause-claims g c = c.requires.claims

pub keep_files-requires-clause-places : goal.keep_files-requires-clause-places
keep_files-requires-clause-places g c = c.requires.places

pub returns-in-Err-clause-held : goal.returns-in-Err-clause-held
returns-in-Err-clause-held g c = tt

pub returns-in-Err-clause-ticks : goal.returns-in-Err-clause-ticks
returns-in-Err-clause-ticks g c = first_counted _ _ _ _ c.in-Err.ensures.ticks

pub returns-in-Ok-clause-held : goal.returns-in-Ok-clause-held
returns-in-Ok-clause-held g c =
    subst (λ (h : Holding). OnOk c.keep_files.result (held_of c.keep_files.new.self ≡ with_files h (map (file_at_place c.args.files.now) c.args.places.now)))
    c.in-Ok.ensures.held c.keep_files.ensures.held

pub returns-in-Ok-clause-ticks : goal.returns-in-Ok-clause-ticks
returns-in-Ok-clause-ticks g c = both_counted _ _ _ _ _ c.in-Ok.ensures.ticks c.keep_files.ensures.ticks
