use Rattle.std.proofs.Common.{◌≡◌, true, take}
use Rattle.std.specs.List.{list_all}
use Rattle.xfs_salvage.specs.xfs_laws.Counting.{is_behind}
use Rattle.xfs_request.proofs.log.are_behind.Given as goal

abbrev pub invariant-loop-lsn : goal.invariant-loop-lsn
invariant-loop-lsn l = list_all (is_behind l.head) (take l.lsn-index l.lsns) ≡ true
