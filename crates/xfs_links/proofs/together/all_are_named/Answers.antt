use Rattle.xfs_links.proofs.Once.{root_nameless, directory_once, other_named, lost_once}
use Rattle.xfs_links.proofs.together.all_are_named.Goals as goal

pub returns-clause-root : goal.returns-clause-root
returns-clause-root c = root_nameless c.args._files.now c.args._entries.now c.args._root c.args._new c.requires.files c.requires.root c.requires.new

pub returns-clause-directories : goal.returns-clause-directories
returns-clause-directories c n dir other = directory_once c.args._files.now c.args._entries.now c.args._root c.args._new c.requires.files c.requires.root c.requires.new n dir other

pub returns-clause-others : goal.returns-clause-others
returns-clause-others c n is_file no_directory ordinary = other_named c.args._files.now c.args._entries.now c.args._root c.args._new c.requires.files c.requires.root c.requires.new n is_file no_directory ordinary

pub returns-clause-lost : goal.returns-clause-lost
returns-clause-lost c added = lost_once c.args._files.now c.args._entries.now c.args._root c.args._new c.requires.files c.requires.root c.requires.new added
