use Rattle.std.proofs.Common.{◌↔◌, drop}
use Rattle.xfs_request.specs.Slots.{StandByNumber}
use Rattle.xfs_request.proofs.order.stand_by_number.Given as goal

abbrev pub invariant-loop-record : goal.invariant-loop-record
invariant-loop-record g l = StandByNumber g.T.Numbered.key l.least (drop l.record-index l.records) ↔ StandByNumber g.T.Numbered.key 0 l.records
