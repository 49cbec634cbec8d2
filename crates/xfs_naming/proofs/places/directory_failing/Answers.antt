use Rattle.std.proofs.Common.{rules}
use Rattle.xfs_naming.proofs.places.directory_failing.Goals as goal

pub returns : goal.returns
returns c = search rules
