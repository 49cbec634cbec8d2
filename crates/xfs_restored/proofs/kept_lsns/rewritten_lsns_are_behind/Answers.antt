use Rattle.xfs_restored.proofs.AllBehind.{all_behind, log_keeps}
use Rattle.xfs_restored.proofs.kept_lsns.rewritten_lsns_are_behind.Goals as goal

pub returns-clause-behind : goal.returns-clause-behind
returns-clause-behind c = λ g s image now kept seen groups crc before after has clusters heads due. all_behind g s image now kept seen has groups crc before after clusters heads due

pub returns-clause-kept : goal.returns-clause-kept
returns-clause-kept c = λ g s image now kept seen groups crc before after has clusters heads due chains. log_keeps g s image now kept seen has groups crc before after clusters heads due chains
