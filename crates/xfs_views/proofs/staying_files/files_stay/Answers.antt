use Rattle.xfs_views.proofs.FilesStay.{alone_stays, file_stays, free_stays}
use Rattle.xfs_views.proofs.SlotsRead.{slot_stays}
use Rattle.xfs_views.proofs.staying_files.files_stay.Goals as goal

pub returns-clause-free : goal.returns-clause-free
returns-clause-free c = free_stays

pub returns-clause-file : goal.returns-clause-file
returns-clause-file c = file_stays

pub returns-clause-alone : goal.returns-clause-alone
returns-clause-alone c = alone_stays

pub returns-clause-named : goal.returns-clause-named
returns-clause-named c = slot_stays
