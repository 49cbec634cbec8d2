use Rattle.xfs_settled.proofs.BlankLogs.{log_one}
use Rattle.xfs_settled.proofs.logs.blank_logs_are_one.Goals as goal

pub returns : goal.returns
returns c = log_one
