use Rattle.std.proofs.lemmas.Result.{IfOk-weaker}
use Rattle.xfs_place.proofs.placing.place.Goals as goal

pub returns-clause-runs : goal.returns-clause-runs
returns-clause-runs c = IfOk-weaker c.place_all.result _ _ (λ placed told. told.runs) c.place_all.ensures.told

pub returns-clause-cuts : goal.returns-clause-cuts
returns-clause-cuts c = IfOk-weaker c.place_all.result _ _ (λ placed told. told.cuts) c.place_all.ensures.told

pub returns-clause-groups : goal.returns-clause-groups
returns-clause-groups c = IfOk-weaker c.place_all.result _ _ (λ placed told. told.groups) c.place_all.ensures.told

pub returns-clause-apart : goal.returns-clause-apart
returns-clause-apart c = IfOk-weaker c.place_all.result _ _ (λ placed told. told.apart) c.place_all.ensures.told

pub returns-clause-pool : goal.returns-clause-pool
returns-clause-pool c = IfOk-weaker c.place_all.result _ _ (λ placed told. told.pool) c.place_all.ensures.told

pub returns-clause-counts : goal.returns-clause-counts
returns-clause-counts c = IfOk-weaker c.place_all.result _ _ (λ placed told. told.counts) c.place_all.ensures.told

pub returns-clause-cause : goal.returns-clause-cause
returns-clause-cause c = c.place_all.ensures.cause

pub place_all-requires-clause-kept : goal.place_all-requires-clause-kept
place_all-requires-clause-kept c = c.requires.kept

pub place_all-requires-clause-asks : goal.place_all-requires-clause-asks
place_all-requires-clause-asks c = c.requires.asks

pub place_all-requires-clause-inodes : goal.place_all-requires-clause-inodes
place_all-requires-clause-inodes c = c.requires.inodes

pub place_all-requires-clause-few : goal.place_all-requires-clause-few
place_all-requires-clause-few c = c.requires.few
