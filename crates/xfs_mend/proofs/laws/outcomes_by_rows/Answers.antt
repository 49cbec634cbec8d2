use Rattle.xfs_geom.specs.Election.{elected}
use Rattle.xfs_mend.proofs.Answering.{consistent_answer, found_answer, one_answer, only_clean}
use Rattle.xfs_mend.proofs.laws.outcomes_by_rows.Goals as goal

pub returns-clause-one : goal.returns-clause-one
returns-clause-one c = λ o s image a b first second. one_answer o s image (elected image) a b first second

pub returns-clause-clean : goal.returns-clause-clean
returns-clause-clean c = λ o s image answer. only_clean o s image (elected image) answer

pub returns-clause-consistent : goal.returns-clause-consistent
returns-clause-consistent c = consistent_answer

pub returns-clause-found : goal.returns-clause-found
returns-clause-found c = found_answer
