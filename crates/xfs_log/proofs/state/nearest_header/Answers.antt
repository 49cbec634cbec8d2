use Rattle.std.proofs.Common.{rules}
use Rattle.xfs_log.specs.Log.{nearest_header}
use Rattle.xfs_log.proofs.state.nearest_header.Goals as goal

pub returns-in-Some-clause-value : goal.returns-in-Some-clause-value
unfolding nearest_header
returns-in-Some-clause-value c = search rules

pub returns-in-None-clause-value : goal.returns-in-None-clause-value
unfolding nearest_header
returns-in-None-clause-value c = search rules
