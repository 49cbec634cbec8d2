use Rattle.std.proofs.Common.{ℕ, List, sym, subst, arith}
use Rattle.std.proofs.lemmas.Result.{IfOk-from_err}
use Rattle.xfs_geom.specs.Volumes.{volume_of}
use Rattle.xfs_render.specs.Logs.{IsBlankBlock}
use Rattle.xfs_render.proofs.LogSteps.{whole_log}
use Rattle.xfs_render.proofs.log.add_log.Goals as goal

pub add_rest-requires-clause-some : goal.add_rest-requires-clause-some
add_rest-requires-clause-some c = let count = c.in_ok-add_block-2.ensures.adds.count in omega (arith, count)

pub add_rest-requires-clause-last : goal.add_rest-requires-clause-last
add_rest-requires-clause-last c =
    subst (λ (b : List ℕ). IsBlankBlock c.args.cycle c.args.g.now.uuid 1 b) (sym c.in_ok-add_block-2.ensures.last) c.put_block-2.ensures

pub returns : goal.returns
returns c =
    let g = c.args.g.now in
    whole_log (volume_of g) c.args.cycle c.put_block.new.block c.put_block-2.new.block c.args.draft.now c.add_block.new.self c.add_block-2.new.self c.add_rest.new.draft
    (omega (arith, g.shape.log_inside.large)) c.requires.some c.requires.few c.put_block.ensures c.put_block-2.ensures
    c.in_ok-add_block.ensures c.in_ok-add_block-2.ensures c.in_ok-add_rest.ensures

pub put_block-requires-clause-some : goal.put_block-requires-clause-some
put_block-requires-clause-some c = c.requires.some

pub put_block-requires-clause-few : goal.put_block-requires-clause-few
put_block-requires-clause-few c = c.requires.few

pub put_block-requires-2-clause-some : goal.put_block-requires-2-clause-some
put_block-requires-2-clause-some c = c.requires.some

pub put_block-requires-2-clause-few : goal.put_block-requires-2-clause-few
put_block-requires-2-clause-few c = c.requires.few

pub add_block-requires-clause-draft : goal.add_block-requires-clause-draft
add_block-requires-clause-draft c = c.requires.draft

pub add_block-requires-2-clause-draft : goal.add_block-requires-2-clause-draft
add_block-requires-2-clause-draft c = c.in_ok-add_block.ensures.adds.whole

pub add_rest-requires-clause-draft : goal.add_rest-requires-clause-draft
add_rest-requires-clause-draft c = c.in_ok-add_block-2.ensures.adds.whole

pub returns-in_err-add_block : goal.returns-in_err-add_block
returns-in_err-add_block c = IfOk-from_err c.from_residual.result _ c.from_residual.ensures.0

pub returns-in_err-add_block-2 : goal.returns-in_err-add_block-2
returns-in_err-add_block-2 c = IfOk-from_err c.from_residual-in_err-add_block-2.result _ c.from_residual-in_err-add_block-2.ensures.0

pub returns-in_err-add_rest : goal.returns-in_err-add_rest
returns-in_err-add_rest c = IfOk-from_err c.from_residual-in_err-add_rest.result _ c.from_residual-in_err-add_rest.ensures.0
