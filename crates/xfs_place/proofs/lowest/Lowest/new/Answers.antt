use Rattle.xfs_place.proofs.Found.{found_none}
use Rattle.std.proofs.lemmas.Result.{IfOk-from_err}
use Rattle.xfs_place.proofs.lowest.Lowest.new.Goals as goal

pub returns-clause-stands : goal.returns-clause-stands
returns-clause-stands c = found_none c.args.uses.now _ _ _ _ c.new.ensures.items c.in_ok-vec.ensures.items c.in_ok-vec-2.ensures.items c.count_free.ensures

pub returns-in_err-vec-clause-stands : goal.returns-in_err-vec-clause-stands
returns-in_err-vec-clause-stands c = IfOk-from_err c.from_residual.result _ c.from_residual.ensures.0

pub returns-in_err-vec-clause-none : goal.returns-in_err-vec-clause-none
returns-in_err-vec-clause-none c = IfOk-from_err c.from_residual.result _ c.from_residual.ensures.0

pub returns-in_err-vec-2-clause-stands : goal.returns-in_err-vec-2-clause-stands
returns-in_err-vec-2-clause-stands c = IfOk-from_err c.from_residual-in_err-vec-2.result _ c.from_residual-in_err-vec-2.ensures.0

pub returns-in_err-vec-2-clause-none : goal.returns-in_err-vec-2-clause-none
returns-in_err-vec-2-clause-none c = IfOk-from_err c.from_residual-in_err-vec-2.result _ c.from_residual-in_err-vec-2.ensures.0
