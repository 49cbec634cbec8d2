use Rattle.std.proofs.Common.{◌≡◌, drop, map}
use Rattle.xfs_volume.specs.Laws.{first_broken}
use Rattle.xfs_laws.specs.Counting.{lsn_law}
use Rattle.xfs_laws.proofs.log.check_lsns.Given as goal

abbrev pub invariant-loop-lsn : goal.invariant-loop-lsn
invariant-loop-lsn l = first_broken (map (lsn_law l.head) (drop l.lsn-index l.lsns)) ≡ first_broken (map (lsn_law l.head) l.lsns)
