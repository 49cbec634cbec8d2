use Rattle.xfs_views.proofs.Guarded.{are_kept}
use Rattle.xfs_views.proofs.Members.{contained}
use Rattle.xfs_views.proofs.claims.guarded_files_are_kept.Goals as goal

pub returns-clause-cluster : goal.returns-clause-cluster
returns-clause-cluster c = λ claims file root up is has guarded.
    (are_kept claims file (record { root = root; up = up; is = contained file claims.files is; has = has; guarded = guarded })).cluster

pub returns-clause-file : goal.returns-clause-file
returns-clause-file c = λ claims file root up is has guarded.
    (are_kept claims file (record { root = root; up = up; is = contained file claims.files is; has = has; guarded = guarded })).file_kept
