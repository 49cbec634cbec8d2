use Rattle.xfs_settled.proofs.AnswersOnce.{answers_one}
use Rattle.xfs_settled.proofs.repairs.outcomes_are_one.Goals as goal

pub returns-clause-outcome : goal.returns-clause-outcome
returns-clause-outcome c = λ o s image a b x y na nb da db la lb wx wy. (answers_one o s image a b x y na nb da db la lb wx wy).0

pub returns-clause-image : goal.returns-clause-image
returns-clause-image c = λ o s image a b x y na nb da db la lb wx wy. (answers_one o s image a b x y na nb da db la lb wx wy).1
