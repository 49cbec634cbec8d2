use Rattle.std.proofs.Common.{◌≡◌, ◌<◌, take, IfSome}
use Rattle.xfs_log.specs.Log.{last_header}
use Rattle.xfs_log.proofs.state.last_header.Given as goal

abbrev pub invariant-loop-place : goal.invariant-loop-place
invariant-loop-place l = (l.last ≡ last_header (take l.place l.seen)) × IfSome l.last (λ start. start < l.place)
