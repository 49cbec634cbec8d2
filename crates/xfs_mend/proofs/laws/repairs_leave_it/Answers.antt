use Rattle.xfs_mend.proofs.Again.{leaves_it, left_clean, left_stays, rebuilt_stays, stays_quiet}
use Rattle.xfs_mend.proofs.Staying.{always_clean}
use Rattle.xfs_mend.proofs.laws.repairs_leave_it.Goals as goal

pub returns-clause-quiet : goal.returns-clause-quiet
returns-clause-quiet c = stays_quiet

pub returns-clause-consistent : goal.returns-clause-consistent
returns-clause-consistent c = leaves_it

pub returns-clause-clean : goal.returns-clause-clean
returns-clause-clean c = always_clean

pub returns-clause-repaired : goal.returns-clause-repaired
returns-clause-repaired c = left_stays

pub returns-clause-rebuilt : goal.returns-clause-rebuilt
returns-clause-rebuilt c = rebuilt_stays

pub returns-clause-due : goal.returns-clause-due
returns-clause-due c = left_clean
