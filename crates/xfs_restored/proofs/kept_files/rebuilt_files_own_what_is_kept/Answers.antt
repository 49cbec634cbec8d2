use Rattle.xfs_geom.specs.Volumes.{volume_of}
use Rattle.xfs_restored.proofs.DueOwners.{due_runs, due_used}
use Rattle.xfs_restored.proofs.kept_files.rebuilt_files_own_what_is_kept.Goals as goal

pub returns-clause-runs : goal.returns-clause-runs
returns-clause-runs c = λ g s kept seen crc. due_runs (volume_of g) s kept seen crc

pub returns-clause-used : goal.returns-clause-used
returns-clause-used c = λ g s kept seen crc ino. due_used (volume_of g) s kept seen crc ino
