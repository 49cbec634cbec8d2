use Rattle.xfs_links.proofs.Reaching.{directories_reached, found_reached}
use Rattle.xfs_links.proofs.together.all_are_reached.Goals as goal

pub returns-clause-directories : goal.returns-clause-directories
returns-clause-directories c n dir = directories_reached c.args._files.now c.args._entries.now c.args._root c.args._new c.requires n dir

pub returns-clause-lost : goal.returns-clause-lost
returns-clause-lost c some = found_reached c.args._files.now c.args._entries.now c.args._root c.args._new c.requires some
