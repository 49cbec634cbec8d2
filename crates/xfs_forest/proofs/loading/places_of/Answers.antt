use Rattle.std.proofs.lemmas.List.{take_all}
use Rattle.xfs_forest.specs.Forest.{cell_places}
use Rattle.std.proofs.lemmas.Result.{IfOk-from_err}
use Rattle.std.proofs.Common.{arith, ap, ◌∙◌}
use Rattle.xfs_forest.proofs.CellPlaces.{places_more}
use Rattle.xfs_forest.proofs.loading.places_of.Goals as goal

pub loop-i-preserved : goal.loop-i-preserved
loop-i-preserved g c =
    places_more c.args.cells.now c.loop-i.i c.index-cells-i.result c.loop-i.places.items c.push.new.self.items (omega arith) c.loop-i.invariant c.in_ok-push.ensures.items

pub loop-i-init : goal.loop-i-init
loop-i-init g c = c.in_ok-places.ensures.items

pub bounds-cells-i : goal.bounds-cells-i
bounds-cells-i g c = omega arith

pub returns : goal.returns
returns g c = c.loop-i.invariant ∙ ap (λ cells. cell_places cells) (take_all c.loop-i.i c.args.cells.now (omega arith))

pub returns-in_err-places : goal.returns-in_err-places
returns-in_err-places g c = IfOk-from_err c.from_residual.result _ c.from_residual.ensures.0

pub returns-in_err-push : goal.returns-in_err-push
returns-in_err-push g c = IfOk-from_err c.from_residual-in_err-push.result _ c.from_residual-in_err-push.ensures.0
