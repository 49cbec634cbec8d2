use Rattle.xfs_image.proofs.Ascending.{candidates_ascend}
use Rattle.xfs_image.proofs.Roots.{chunks_name, owners_name, root_candidate, root_recorded}
use Rattle.xfs_image.proofs.laws.clusters_are_named.Goals as goal

pub returns-clause-chunks : goal.returns-clause-chunks
returns-clause-chunks c = chunks_name

pub returns-clause-owners : goal.returns-clause-owners
returns-clause-owners c = owners_name

pub returns-clause-recorded : goal.returns-clause-recorded
returns-clause-recorded c = root_recorded

pub returns-clause-candidate : goal.returns-clause-candidate
returns-clause-candidate c = root_candidate

pub returns-clause-ascend : goal.returns-clause-ascend
returns-clause-ascend c = candidates_ascend
