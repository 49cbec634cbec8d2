use Rattle.std.proofs.Common.{◌≡◌, length, sym, ap, subst, arith, rules}
use Rattle.std.proofs.lemmas.Result.{IfOk-from_err}
use Rattle.std.proofs.lemmas.List.{with_items_is}
use Rattle.xfs_geom.specs.Volumes.{volume_of}
use Rattle.xfs_rounds.specs.Judged.{AreJudged, AreListed}
use Rattle.xfs_rounds.proofs.Rows.{all_judged, in_bank}
use Rattle.xfs_rounds.proofs.pieces.judge_round.Goals as goal

pub judge_pieces-requires-clause-blocks : goal.judge_pieces-requires-clause-blocks
judge_pieces-requires-clause-blocks g c = λ κs lives.
    in_bank c.args.g.now.dblocks c.args.bank.now c.args.round.now c.deref_mut.result.now
    (subst (AreListed c.args.round.now) (sym c.deref_mut.ensures.value) c.in_ok-blocks.ensures) c.requires.volume c.requires.bank

pub returns : goal.returns
returns g c =
    let v = volume_of c.args.g.now in
    let bank = c.args.bank.now in
    let round = c.args.round.now in
    let vec = c.in_ok-blocks.blocks in
    let left = c.judge_pieces.new.blocks in
    let long : length left ≡ vec.len = search rules in
    let size : length left ≡ length c.deref_mut.result.now = omega (arith, long, ap length c.deref_mut.ensures.value, vec.ok.0) in
    subst (AreJudged v bank round) (sym (with_items_is vec left long))
    (all_judged v bank round c.deref_mut.result.now left (subst (AreListed round) (sym c.deref_mut.ensures.value) c.in_ok-blocks.ensures) size c.judge_pieces.ensures)

pub returns-in_err-blocks : goal.returns-in_err-blocks
returns-in_err-blocks g c = IfOk-from_err c.from_residual.result _ c.from_residual.ensures.0
