use Rattle.std.proofs.lemmas.Result.{IfOk-from_err}
use Rattle.xfs_claims.proofs.Counted.{some_counted}
use Rattle.xfs_claims.proofs.salvage.take_all.Goals as goal

pub returns-in_err-ranks-clause-kept : goal.returns-in_err-ranks-clause-kept
returns-in_err-ranks-clause-kept g c = IfOk-from_err c.from_residual.result _ c.from_residual.ensures.0

pub returns-in_err-ranks-clause-ticks : goal.returns-in_err-ranks-clause-ticks
returns-in_err-ranks-clause-ticks g c = some_counted _ _

pub returns-clause-kept : goal.returns-clause-kept
returns-clause-kept g c = c.take_ranked.ensures.kept

pub returns-clause-ticks : goal.returns-clause-ticks
returns-clause-ticks g c = c.take_ranked.ensures.ticks
