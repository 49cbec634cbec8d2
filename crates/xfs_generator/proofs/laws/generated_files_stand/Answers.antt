use Rattle.xfs_generator.proofs.Standing.{file_stands}
use Rattle.xfs_generator.proofs.Trees.{count_nodes}
use Rattle.xfs_generator.proofs.laws.generated_files_stand.Goals as goal

pub returns-clause-stand : goal.returns-clause-stand
returns-clause-stand c = file_stands c.args._files

pub returns-clause-count : goal.returns-clause-count
returns-clause-count c = count_nodes c.args._files
