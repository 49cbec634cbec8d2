use Rattle.std.proofs.Common.{rules}
use Rattle.xfs_collections.proofs.links.tie.Goals as goal

pub returns-clause-before : goal.returns-clause-before
returns-clause-before c = search rules
