use Rattle.xfs_restored.proofs.NumberedOf.{numbered}
use Rattle.xfs_restored.proofs.StayingOf.{directories, staying}
use Rattle.xfs_restored.proofs.numbers.renamed_numbers_are_known.Goals as goal

pub returns-clause-numbered : goal.returns-clause-numbered
returns-clause-numbered c = numbered

pub returns-clause-staying : goal.returns-clause-staying
returns-clause-staying c = staying

pub returns-clause-directories : goal.returns-clause-directories
returns-clause-directories c = directories
