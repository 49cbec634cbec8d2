use Rattle.xfs_links.proofs.Different.{kept_differ}
use Rattle.xfs_links.proofs.together.names_stay_different.Goals as goal

pub returns : goal.returns
returns c = kept_differ c.args._files.now c.args._entries.now c.args._root
