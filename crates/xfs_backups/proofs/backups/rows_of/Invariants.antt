use Rattle.std.proofs.Common.{◌≡◌, take}
use Rattle.xfs_writing.specs.Writing.{rows_from}
use Rattle.xfs_backups.proofs.backups.rows_of.Given as goal

abbrev pub invariant-loop-place : goal.invariant-loop-place
invariant-loop-place l = l.rows.items ≡ rows_from 0 (take l.place-index l.places)
