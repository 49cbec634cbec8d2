use Rattle.xfs_restored.proofs.WantedForks.{directory_wanted, kept_wanted, more_wanted}
use Rattle.xfs_restored.proofs.slots.forks_are_wanted.Goals as goal

pub returns-clause-any : goal.returns-clause-any
returns-clause-any c = directory_wanted

pub returns-clause-alone : goal.returns-clause-alone
returns-clause-alone c = kept_wanted

pub returns-clause-beside : goal.returns-clause-beside
returns-clause-beside c = more_wanted
