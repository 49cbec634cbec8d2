use Rattle.xfs_views.proofs.Images.{protected_kept}
use Rattle.xfs_views.proofs.Taken.{none_of_directories, protected_stands}
use Rattle.xfs_views.proofs.claims.protected_files_are_kept.Goals as goal

pub returns-clause-cluster : goal.returns-clause-cluster
returns-clause-cluster c = λ g image ino is. (protected_kept g image ino is).cluster

pub returns-clause-file : goal.returns-clause-file
returns-clause-file c = λ g image ino is. (protected_kept g image ino is).file

pub returns-clause-stands : goal.returns-clause-stands
returns-clause-stands c = protected_stands

pub returns-clause-other : goal.returns-clause-other
returns-clause-other c = λ v image ino is. none_of_directories is.file is.no_directory
