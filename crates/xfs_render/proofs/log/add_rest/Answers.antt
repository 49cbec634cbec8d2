use Rattle.std.proofs.Common.{◌≡◌, ℕ, ◌+◌, refl, subst, arith}
use Rattle.xfs_geom.specs.Volumes.{volume_of}
use Rattle.xfs_render.specs.Logs.{AddsRest}
use Rattle.xfs_render.proofs.LogSteps.{rest_more, rest_none}
use Rattle.xfs_render.proofs.log.add_rest.Goals as goal

pub loop-i-init : goal.loop-i-init
loop-i-init c = record { rest = rest_none (volume_of c.args.g.now) c.args._cycle c.args.draft.now c.requires.draft }

pub loop-i-preserved : goal.loop-i-preserved
loop-i-preserved c =
    let g = c.args.g.now in
    record {
      rest = rest_more (volume_of g) c.args._cycle c.loop-i.i (g.log + c.loop-i.i) c.args.draft.now c.loop-i.draft c.add_again.new.self c.loop-i.auto.i refl
          c.requires.last c.loop-i.invariant.rest c.in_ok-add_again.ensures;
    }

pub returns : goal.returns
returns c =
    let g = c.args.g.now in
    let most = c.loop-i.auto.i-end (omega (arith, g.shape.log_inside.large)) in
    let end : c.loop-i.i ≡ g.logblocks = omega (arith, c.loop-i-test.false, most) in
    subst (λ (n : ℕ). AddsRest (volume_of g) c.args._cycle n c.args.draft.now c.loop-i.draft) end c.loop-i.invariant.rest
