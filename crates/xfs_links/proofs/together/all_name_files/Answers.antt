use Rattle.xfs_links.proofs.Targets.{together_valid, together_in_use, together_ordinary}
use Rattle.xfs_links.proofs.together.all_name_files.Goals as goal

pub returns-clause-valid : goal.returns-clause-valid
returns-clause-valid c = together_valid c.args._files.now c.args._entries.now c.args._root c.args._new c.requires.files c.requires.few

pub returns-clause-in_use : goal.returns-clause-in_use
returns-clause-in_use c = together_in_use c.args._files.now c.args._entries.now c.args._root c.args._new

pub returns-clause-ordinary : goal.returns-clause-ordinary
returns-clause-ordinary c system free = together_ordinary c.args._files.now c.args._entries.now c.args._root c.args._new system free
