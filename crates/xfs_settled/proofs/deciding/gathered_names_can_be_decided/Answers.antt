use Rattle.xfs_settled.proofs.Nodes.{are_entries, are_files, root_directory}
use Rattle.xfs_settled.proofs.deciding.gathered_names_can_be_decided.Goals as goal

pub returns-clause-files : goal.returns-clause-files
returns-clause-files c = are_files

pub returns-clause-entries : goal.returns-clause-entries
returns-clause-entries c = are_entries

pub returns-clause-root : goal.returns-clause-root
returns-clause-root c = root_directory
