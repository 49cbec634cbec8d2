use Rattle.std.proofs.lemmas.Result.{IfOk-from_err}
use Rattle.xfs_rounds.proofs.judging.judge_file.Goals as goal

pub returns-in_err-file : goal.returns-in_err-file
returns-in_err-file c = IfOk-from_err c.from_residual.result _ c.from_residual.ensures.0
