use Rattle.xfs_generator.proofs.Trees.{as_many, generated_are_files}
use Rattle.xfs_generator.proofs.laws.generated_files_are_files.Goals as goal

pub returns-clause-files : goal.returns-clause-files
returns-clause-files c = generated_are_files c.args._files c.requires.few

pub returns-clause-bytes : goal.returns-clause-bytes
returns-clause-bytes c = as_many c.args._files
