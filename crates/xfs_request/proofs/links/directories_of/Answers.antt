use Rattle.xfs_request.proofs.Numbers.{are_directories}
use Rattle.xfs_request.proofs.links.directories_of.Goals as goal

pub returns : goal.returns
returns c = are_directories c.args.files.now c.in_ok-numbers.numbers.items c.requires c.in_ok-numbers.ensures
