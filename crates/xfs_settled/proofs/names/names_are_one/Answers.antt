use Rattle.xfs_settled.proofs.NamesOnce.{cuts_one, due_one, names_one}
use Rattle.xfs_settled.proofs.names.names_are_one.Goals as goal

pub returns-clause-due : goal.returns-clause-due
returns-clause-due c = due_one

pub returns-clause-wanted : goal.returns-clause-wanted
returns-clause-wanted c = names_one

pub returns-clause-cuts : goal.returns-clause-cuts
returns-clause-cuts c = cuts_one
