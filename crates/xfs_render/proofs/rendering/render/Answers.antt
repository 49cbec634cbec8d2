use Rattle.std.proofs.Common.{◌≡◌, ◌∙◌, ◌%◌, ◌≤◌, ◌<◌, ℕ, ap, arith, List, sym, subst}
use Rattle.std.specs.List.{All}
use Rattle.std.proofs.lemmas.Result.{IfOk-from_err}
use Rattle.std.proofs.lemmas.Bool.{eqb-true}
use Rattle.xfs_geom.specs.declared.records.Run.{Run}
use Rattle.xfs_geom.specs.Stated.{stated}
use Rattle.xfs_geom.specs.Volumes.{Volume}
use Rattle.xfs_place.specs.Pool.{IsRunOf}
use Rattle.xfs_render.specs.NewBlocks.{AreReaches}
use Rattle.xfs_render.proofs.rendering.render.Goals as goal

pub render_work-requires-clause-objects : goal.render_work-requires-clause-objects
render_work-requires-clause-objects g c = c.deref-2.ensures.value ∙ c.in_ok-objects.ensures

pub render_work-requires-clause-due : goal.render_work-requires-clause-due
render_work-requires-clause-due g c =
    let w = c.args.wanted.now in
    let b = c.args.bytes.now in
    let agblocks : (stated b.sector).agblocks ≡ w.geometry.agblocks = ap (λ (v : Volume). v.agblocks) c.requires.states in
    let dblocks : (stated b.sector).dblocks ≡ w.geometry.dblocks = ap (λ (v : Volume). v.dblocks) c.requires.states in
    record {
      written = c.write_super.ensures.written;
      accepted = λ place blocks head low all.
          c.write_super.ensures.accepted place blocks (ap (λ (n : ℕ). place % n) agblocks ∙ eqb-true _ 0 head) (omega (arith, dblocks, low)) (omega (arith, dblocks, all));
      states = c.write_super.ensures.states ∙ c.requires.states;
    }

pub returns-in_err-objects : goal.returns-in_err-objects
returns-in_err-objects g c = IfOk-from_err c.from_residual.result _ c.from_residual.ensures.0

pub returns-in_err-reaches : goal.returns-in_err-reaches
returns-in_err-reaches g c = IfOk-from_err c.from_residual-in_err-reaches.result _ c.from_residual-in_err-reaches.ensures.0

pub write_super-requires-clause-accepted : goal.write_super-requires-clause-accepted
write_super-requires-clause-accepted g c = c.requires.accepted

pub object_blocks-requires-clause-cuts : goal.object_blocks-requires-clause-cuts
object_blocks-requires-clause-cuts g c = c.requires.cuts

pub object_blocks-requires-clause-runs : goal.object_blocks-requires-clause-runs
object_blocks-requires-clause-runs g c = c.requires.runs

pub list_reaches-requires : goal.list_reaches-requires
list_reaches-requires g c = subst (λ (rs : List Run). All (IsRunOf c.args.wanted.now.geometry.dblocks) rs) (sym c.as_slice.ensures) c.requires.new

pub render_work-requires-clause-ready : goal.render_work-requires-clause-ready
render_work-requires-clause-ready g c = c.requires

pub render_work-requires-clause-reaches : goal.render_work-requires-clause-reaches
render_work-requires-clause-reaches g c =
    subst (AreReaches c.args.wanted.now.new) (sym c.deref.ensures.value) (subst (λ (rs : List Run). AreReaches rs c.in_ok-reaches.reaches.items) c.as_slice.ensures c.in_ok-reaches.ensures)

pub returns : goal.returns
returns g c = c.render_work.ensures
