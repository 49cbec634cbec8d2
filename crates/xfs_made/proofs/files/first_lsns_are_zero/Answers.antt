use Rattle.xfs_made.proofs.FirstLsns.{lsns_zero, no_file_places}
use Rattle.xfs_made.proofs.files.first_lsns_are_zero.Goals as goal

pub returns-clause-slots : goal.returns-clause-slots
returns-clause-slots c = λ g s image groups agf_crc agi_crc first slots. lsns_zero g s image groups agf_crc agi_crc slots

pub returns-clause-files : goal.returns-clause-files
returns-clause-files c = no_file_places
