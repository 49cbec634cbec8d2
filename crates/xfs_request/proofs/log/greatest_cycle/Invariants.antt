use Rattle.std.proofs.Common.{◌≡◌, ◌<◌, ◌^◌, max, drop}
use Rattle.xfs_request.specs.Cycles.{greatest_cycle}
use Rattle.xfs_request.proofs.log.greatest_cycle.Given as goal

abbrev pub invariant-loop-lsn : goal.invariant-loop-lsn
invariant-loop-lsn l = record {
  left : max l.greatest (greatest_cycle (drop l.lsn-index l.lsns)) ≡ greatest_cycle l.lsns;
  few : l.greatest < 2 ^ 32;
}
