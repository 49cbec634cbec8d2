use Rattle.xfs_filled.proofs.Protofiles.{protofile_files}
use Rattle.xfs_filled.proofs.laws.protofiles_are_files.Goals as goal

pub returns : goal.returns
returns c = protofile_files c.args._text.now c.args._nodes.now c.requires
