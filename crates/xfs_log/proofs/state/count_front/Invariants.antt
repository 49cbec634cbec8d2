use Rattle.std.proofs.Common.{◌≡◌, ◌+◌, drop}
use Rattle.std.specs.List.{prefix_len}
use Rattle.xfs_log.specs.Log.{is_of_cycle}
use Rattle.xfs_log.proofs.state.count_front.Given as goal

abbrev pub invariant-loop-place : goal.invariant-loop-place
invariant-loop-place l = l.place + prefix_len (is_of_cycle l.cycle) (drop l.place l.seen) ≡ prefix_len (is_of_cycle l.cycle) l.seen
