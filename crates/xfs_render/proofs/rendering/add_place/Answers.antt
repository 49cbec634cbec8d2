use Rattle.std.proofs.Common.{◌≡◌, ◌∙◌, true, false, ℕ, ap, sym, subst}
use Rattle.std.proofs.lemmas.Result.{IfOk-from_err}
use Rattle.xfs_render.specs.Drafts.{AddsBlock}
use Rattle.xfs_render.specs.Rendering.{byte_place, is_put}
use Rattle.xfs_render.proofs.RenderSteps.{adds_not, adds_put}
use Rattle.xfs_render.proofs.rendering.add_place.Goals as goal

pub returns-in_ok-add_block : goal.returns-in_ok-add_block
returns-in_ok-add_block c =
    let w = c.args.work.now.wanted.now in
    let b = c.args.work.now.bytes.now in
    let at : c.byte_place-place.result ≡ byte_place b c.args.i = c.byte_place-place.ensures in
    let put : is_put w c.args.fresh (byte_place b c.args.i) ≡ true =
    ap (is_put w c.args.fresh) (sym at) ∙ sym c.is_put.ensures ∙ c.if-is_put.true in
    adds_put w c.args.work.now.placed.now b c.args.work.now.sector.now c.args.fresh c.args.i c.put_place.new.block c.args.draft.now c.add_block.new.self put
    (subst (λ (n : ℕ). AddsBlock c.args.draft.now c.add_block.new.self n c.put_place.new.block) at c.in_ok-add_block.ensures) c.put_place.ensures.due

pub returns-else-is_put : goal.returns-else-is_put
returns-else-is_put c =
    let w = c.args.work.now.wanted.now in
    let b = c.args.work.now.bytes.now in
    let at : c.byte_place-place.result ≡ byte_place b c.args.i = c.byte_place-place.ensures in
    let other : is_put w c.args.fresh (byte_place b c.args.i) ≡ false =
    ap (is_put w c.args.fresh) (sym at) ∙ sym c.is_put.ensures ∙ c.if-is_put.false in
    adds_not w c.args.work.now.placed.now b c.args.work.now.sector.now c.args.fresh c.args.i c.args.draft.now other c.requires.draft

pub put_place-requires-clause-ready : goal.put_place-requires-clause-ready
put_place-requires-clause-ready c = c.requires.ready

pub put_place-requires-clause-sector : goal.put_place-requires-clause-sector
put_place-requires-clause-sector c = c.requires.sector

pub put_place-requires-clause-inside : goal.put_place-requires-clause-inside
put_place-requires-clause-inside c = c.requires.inside

pub byte_place-place-requires : goal.byte_place-place-requires
byte_place-place-requires c = c.requires.inside

pub is_put-requires : goal.is_put-requires
is_put-requires c = c.requires.reaches

pub add_block-requires-clause-draft : goal.add_block-requires-clause-draft
add_block-requires-clause-draft c = c.requires.draft

pub returns-in_err-add_block : goal.returns-in_err-add_block
returns-in_err-add_block c = IfOk-from_err c.from_residual.result _ c.from_residual.ensures.0
