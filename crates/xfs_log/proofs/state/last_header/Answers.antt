use Rattle.std.proofs.Common.{refl}
use Rattle.xfs_log.specs.Log.{last_header}
use Rattle.xfs_log.proofs.LastHeader.{found, passed}
use Rattle.xfs_log.proofs.state.last_header.Goals as goal
use Rattle.xfs_log.proofs.state.last_header.Goals.{then-sector, else-sector}

pub loop-place-init : goal.loop-place-init
unfolding last_header
loop-place-init c = (refl, tt)

pub loop-place-preserved : goal.loop-place-preserved
loop-place-preserved c =
    let seen = c.args.seen.now in
    let i = c.loop-place.place in
    let inside = c.loop-place-test.true in
    elim c.if-sector.branch [
      | then-sector w ↦ found seen i c.if-sector.last inside w.if-sector.true w.last-is
      | else-sector w ↦ passed seen i c.if-sector.last c.loop-place.last inside w.if-sector.false w.last-is c.loop-place.invariant.0 c.loop-place.invariant.1
    ]
