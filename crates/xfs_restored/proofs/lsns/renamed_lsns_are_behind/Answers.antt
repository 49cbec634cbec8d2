use Rattle.xfs_restored.proofs.LsnsBehind.{log_keeps}
use Rattle.xfs_restored.proofs.lsns.renamed_lsns_are_behind.Goals as goal

pub returns : goal.returns
returns c = log_keeps
