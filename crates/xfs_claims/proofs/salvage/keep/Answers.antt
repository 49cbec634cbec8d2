use Rattle.std.proofs.Common.{◌≡◌, subst}
use Rattle.std.specs.Prelude.{IfOk}
use Rattle.xfs_claims.specs.declared.claimants.KeptClaims.{KeptClaims}
use Rattle.xfs_claims.specs.Keeping.{Holding}
use Rattle.xfs_claims.proofs.salvage.keep.Goals as goal

pub returns-in-Err-clause-clusters : goal.returns-in-Err-clause-clusters
returns-in-Err-clause-clusters g c = tt

pub returns-in-Err-clause-files : goal.returns-in-Err-clause-files
returns-in-Err-clause-files g c = tt

pub returns-in-Err-clause-ticks : goal.returns-in-Err-clause-ticks
returns-in-Err-clause-ticks g c = c.in-Err.ensures.ticks

pub returns-in-Ok-clause-clusters : goal.returns-in-Ok-clause-clusters
returns-in-Ok-clause-clusters g c =
    subst (λ (h : Holding). IfOk c.into_kept.result (λ (kept : KeptClaims). kept.clusters ≡ h.clusters)) c.in-Ok.ensures.kept c.into_kept.ensures.clusters

pub returns-in-Ok-clause-files : goal.returns-in-Ok-clause-files
returns-in-Ok-clause-files g c =
    subst (λ (h : Holding). IfOk c.into_kept.result (λ (kept : KeptClaims). kept.files ≡ h.files)) c.in-Ok.ensures.kept c.into_kept.ensures.files

pub returns-in-Ok-clause-ticks : goal.returns-in-Ok-clause-ticks
returns-in-Ok-clause-ticks g c = c.in-Ok.ensures.ticks
