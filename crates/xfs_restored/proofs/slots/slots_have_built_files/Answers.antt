use Rattle.xfs_restored.proofs.WantedForks.{fresh_is, fresh_short_is, rebuilt_is, rebuilt_short_is}
use Rattle.xfs_restored.proofs.slots.slots_have_built_files.Goals as goal

pub returns-clause-rebuilt : goal.returns-clause-rebuilt
returns-clause-rebuilt c = rebuilt_is

pub returns-clause-rebuilt_short : goal.returns-clause-rebuilt_short
returns-clause-rebuilt_short c = rebuilt_short_is

pub returns-clause-fresh : goal.returns-clause-fresh
returns-clause-fresh c = fresh_is

pub returns-clause-fresh_short : goal.returns-clause-fresh_short
returns-clause-fresh_short c = fresh_short_is
