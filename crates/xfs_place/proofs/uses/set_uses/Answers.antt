use Rattle.xfs_geom.specs.Volumes.{volume_of}
use Rattle.xfs_place.proofs.Marking.{uses_set}
use Rattle.xfs_place.proofs.uses.set_uses.Goals as goal

pub returns : goal.returns
returns c =
    uses_set (volume_of c.args.g.now) c.args.runs.now c.args.reserved.now c.args.from c.args.uses.now c.reserve.new.uses c.claim_fixed.new.uses c.claim_runs.new.uses
    c.requires.all c.reserve.ensures c.claim_fixed.ensures c.claim_runs.ensures
