use Rattle.xfs_request.proofs.Numbers.{are_numbers}
use Rattle.xfs_request.proofs.links.numbers_of.Goals as goal

pub returns : goal.returns
returns c = are_numbers c.args.files.now c.in_ok-numbers.numbers.items c.requires c.in_ok-numbers.ensures
