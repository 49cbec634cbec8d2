use Rattle.xfs_restored.proofs.Logs.{evidence_log_clean, evidence_log_due, log_blank, log_same}
use Rattle.xfs_restored.proofs.rewritten_heads.rebuilt_logs_are_clean.Goals as goal

pub returns-clause-blank : goal.returns-clause-blank
returns-clause-blank c = log_blank

pub returns-clause-stays : goal.returns-clause-stays
returns-clause-stays c = log_same

pub returns-clause-clean : goal.returns-clause-clean
returns-clause-clean c = evidence_log_clean

pub returns-clause-due : goal.returns-clause-due
returns-clause-due c = evidence_log_due
