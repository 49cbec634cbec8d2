use Rattle.xfs_links.proofs.Joining.{together_differ}
use Rattle.xfs_links.proofs.Lost.{kept_few}
use Rattle.xfs_links.proofs.together.names_differ_together.Goals as goal

pub returns : goal.returns
returns c = together_differ c.args._files.now c.args._entries.now c.args._root c.args._new c.requires.files c.requires.entries (kept_few c.args._files.now c.args._entries.now c.args._root c.requires.few) c.requires.root c.requires.new
