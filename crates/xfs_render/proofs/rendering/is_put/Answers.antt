use Rattle.std.proofs.Common.{◌∙◌, not, Bool, ap, sym}
use Rattle.xfs_render.specs.Rendering.{is_put}
use Rattle.xfs_render.proofs.rendering.is_put.Goals as goal

pub returns-then-fresh : goal.returns-then-fresh
returns-then-fresh c =
    let w = c.args.work.now.wanted.now in
    c.lies_in_runs-new.ensures w.new c.requires ∙ ap (λ (t : Bool). is_put w t c.args.place) (sym c.if-fresh.true)

pub returns-else-fresh : goal.returns-else-fresh
returns-else-fresh c =
    let w = c.args.work.now.wanted.now in
    ap not (c.lies_in_runs-new.ensures w.new c.requires) ∙ ap (λ (t : Bool). is_put w t c.args.place) (sym c.if-fresh.false)
