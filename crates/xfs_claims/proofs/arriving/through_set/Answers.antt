use Rattle.std.proofs.Common.{get_or, refl, ◌∙◌}
use Rattle.xfs_claims.proofs.Arrived.{arrived_step}
use Rattle.xfs_claims.proofs.arriving.through_set.Goals as goal

pub loop-number-preserved : goal.loop-number-preserved
loop-number-preserved c =
    let numbers = c.args.numbers.now in
    let i = c.loop-number.number-index in
    arrived_step numbers i c.loop-number.set.keys c.insert.new.self.keys (get_or numbers i 0) c.loop-number-test.true refl c.in_ok-insert.ensures.keys ∙ c.loop-number.invariant
