use Rattle.xfs_populated.proofs.LsnsDue.{log_keeps, lsns_are, places_zero}
use Rattle.xfs_populated.proofs.space.filled_lsns_are_zero.Goals as goal

pub returns-clause-places : goal.returns-clause-places
returns-clause-places c = λ g sector s ns contents plan blocks image crc agf agi is built. places_zero g sector s ns contents plan blocks image is agf agi crc built

pub returns-clause-read : goal.returns-clause-read
returns-clause-read c = λ g sector s ns contents plan blocks image crc agf agi is built. lsns_are g sector s ns contents plan blocks image is agf agi crc built

pub returns-clause-log : goal.returns-clause-log
returns-clause-log c = λ g sector s ns contents plan blocks image agf agi places is. log_keeps g sector s ns contents plan blocks image is agf agi places
