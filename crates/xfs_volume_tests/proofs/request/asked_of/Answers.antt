use Rattle.std.proofs.Common.{List, sym, subst}
use Rattle.std.specs.List.{All}
use Rattle.xfs_geom.specs.Volumes.{volume_of}
use Rattle.xfs_naming.specs.Naming.{NumbersAscend, numbers_of}
use Rattle.xfs_space.specs.Parts.{HasLawfulForks}
use Rattle.xfs_volume.specs.declared.files.FileRec.{FileRec}
use Rattle.xfs_made.proofs.Ordered.{clusters_of_volume_ascend, files_of_volume_ascend, files_have_forks}
use Rattle.xfs_volume_tests.proofs.Rising.{files_in_order}
use Rattle.xfs_volume_tests.proofs.request.asked_of.Goals as goal

pub ask-requires-clause-files : goal.ask-requires-clause-files
ask-requires-clause-files g c =
    subst (λ (fs : List FileRec). NumbersAscend 0 (numbers_of fs)) (sym c.in-Ok.ensures.files) (files_of_volume_ascend _ _ _ c.in-Ok.ensures.can)

pub ask-requires-clause-clusters : goal.ask-requires-clause-clusters
ask-requires-clause-clusters g c = subst (NumbersAscend 0) (sym c.in-Ok.ensures.clusters) (clusters_of_volume_ascend _ _ _)

pub ask-requires-clause-forks : goal.ask-requires-clause-forks
ask-requires-clause-forks g c = subst (All (HasLawfulForks _)) (sym c.in-Ok.ensures.files) (files_have_forks _ _ _ c.in-Ok.ensures.can)

pub kept_lsns-requires-clause-files : goal.kept_lsns-requires-clause-files
kept_lsns-requires-clause-files g c =
    files_in_order c.in-Ok.kept.files
    (subst (λ (fs : List FileRec). NumbersAscend 0 (numbers_of fs)) (sym c.in-Ok.ensures.files) (files_of_volume_ascend _ _ _ c.in-Ok.ensures.can))

pub kept_lsns-requires-clause-clusters : goal.kept_lsns-requires-clause-clusters
kept_lsns-requires-clause-clusters g c = subst (NumbersAscend 0) (sym c.in-Ok.ensures.clusters) (clusters_of_volume_ascend _ _ _)
