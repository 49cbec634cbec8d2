use Rattle.std.proofs.lemmas.Result.{IfOk-from_err}
use Rattle.xfs_place.proofs.greatest.zeros.Goals as goal

pub returns-in_err-vec-clause-all : goal.returns-in_err-vec-clause-all
returns-in_err-vec-clause-all c = IfOk-from_err c.from_residual.result _ c.from_residual.ensures.0

pub returns-in_err-vec-clause-none : goal.returns-in_err-vec-clause-none
returns-in_err-vec-clause-none c = IfOk-from_err c.from_residual.result _ c.from_residual.ensures.0
