use Rattle.std.proofs.Common.{◌≡◌, IfOk, subst}
use Rattle.xfs_geom.specs.Volumes.{volume_of}
use Rattle.xfs_claims.specs.declared.claimants.Claims.{Claims}
use Rattle.xfs_claims.specs.Keeping.{kept_of}
use Rattle.xfs_views.specs.Claimed.{claims_in}
use Rattle.xfs_salvage.specs.Claimable.{CanBeSalvaged}
use Rattle.xfs_salvage.specs.Kept.{claims_held}
use Rattle.xfs_salvage.proofs.Ascending.{files_ascend_if}
use Rattle.xfs_salvage.proofs.Conditions.{ready, some_says}
use Rattle.xfs_salvage.proofs.keeping.held.Goals as goal

pub keep-requires-clause-clusters_end : goal.keep-requires-clause-clusters_end
keep-requires-clause-clusters_end g c κs within =
    (ready c.args.g.now c.args.clusters.now c.args.files.now c.in-Some.claims c.in_ok-claims.field-0 c.in-Some.is c.in_ok-claims.ensures).clusters_end

pub keep-requires-clause-clusters_differ : goal.keep-requires-clause-clusters_differ
keep-requires-clause-clusters_differ g c κs within =
    (ready c.args.g.now c.args.clusters.now c.args.files.now c.in-Some.claims c.in_ok-claims.field-0 c.in-Some.is c.in_ok-claims.ensures).clusters_are

pub keep-requires-clause-fixed_runs : goal.keep-requires-clause-fixed_runs
keep-requires-clause-fixed_runs g c κs within =
    (ready c.args.g.now c.args.clusters.now c.args.files.now c.in-Some.claims c.in_ok-claims.field-0 c.in-Some.is c.in_ok-claims.ensures).fixed_runs_are

pub keep-requires-clause-fixed_apart : goal.keep-requires-clause-fixed_apart
keep-requires-clause-fixed_apart g c κs within =
    (ready c.args.g.now c.args.clusters.now c.args.files.now c.in-Some.claims c.in_ok-claims.field-0 c.in-Some.is c.in_ok-claims.ensures).fixed_are

pub keep-requires-clause-files_differ : goal.keep-requires-clause-files_differ
keep-requires-clause-files_differ g c κs within =
    (ready c.args.g.now c.args.clusters.now c.args.files.now c.in-Some.claims c.in_ok-claims.field-0 c.in-Some.is c.in_ok-claims.ensures).files_are

pub keep-requires-clause-files_claim : goal.keep-requires-clause-files_claim
keep-requires-clause-files_claim g c κs within =
    (ready c.args.g.now c.args.clusters.now c.args.files.now c.in-Some.claims c.in_ok-claims.field-0 c.in-Some.is c.in_ok-claims.ensures).files_can

pub returns-in-Some-clause-clusters : goal.returns-in-Some-clause-clusters
unfolding claims_held
returns-in-Some-clause-clusters g c =
    let v = volume_of c.args.g.now in
    let is = (some_says (CanBeSalvaged v c.args.clusters.now c.args.files.now) (claims_in v c.args.clusters.now c.args.files.now) c.in-Some.claims c.in_ok-claims.field-0 c.in-Some.is c.in_ok-claims.ensures).1 in
    subst (λ (x : Claims). IfOk c.keep.result (λ kept. kept.clusters ≡ (kept_of x).clusters)) is c.keep.ensures.clusters

pub returns-in-Some-clause-files : goal.returns-in-Some-clause-files
unfolding claims_held
returns-in-Some-clause-files g c =
    let v = volume_of c.args.g.now in
    let is = (some_says (CanBeSalvaged v c.args.clusters.now c.args.files.now) (claims_in v c.args.clusters.now c.args.files.now) c.in-Some.claims c.in_ok-claims.field-0 c.in-Some.is c.in_ok-claims.ensures).1 in
    subst (λ (x : Claims). IfOk c.keep.result (λ kept. kept.files ≡ (kept_of x).files)) is c.keep.ensures.files

pub returns-in-Some-clause-ascend : goal.returns-in-Some-clause-ascend
returns-in-Some-clause-ascend g c = files_ascend_if c.in-Some.claims c.keep.result c.keep.ensures.files
