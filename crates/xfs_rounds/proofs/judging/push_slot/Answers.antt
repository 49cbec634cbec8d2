use Rattle.std.proofs.lemmas.Result.{IfOk-from_err}
use Rattle.xfs_geom.specs.Volumes.{volume_of}
use Rattle.xfs_rounds.proofs.Rows.{part_more}
use Rattle.xfs_rounds.proofs.judging.push_slot.Goals as goal

pub returns : goal.returns
returns c =
    part_more (volume_of c.args.g.now) c.args.block c.args.bytes.now c.args.slot c.args.parts.now.items _ c.in_ok-part.part c.requires.before
    c.in_ok-part.ensures.number c.in_ok-part.ensures.part c.in_ok-push.ensures.items

pub returns-in_err-part : goal.returns-in_err-part
returns-in_err-part c = IfOk-from_err c.from_residual.result _ c.from_residual.ensures.0

pub returns-in_err-push : goal.returns-in_err-push
returns-in_err-push c = IfOk-from_err c.from_residual-in_err-push.result _ c.from_residual-in_err-push.ensures.0
