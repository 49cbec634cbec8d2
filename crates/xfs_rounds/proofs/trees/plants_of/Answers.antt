use Rattle.std.proofs.Common.{◌≡◌, length, subst, arith, rules}
use Rattle.std.proofs.lemmas.Result.{IfOk-from_err}
use Rattle.xfs_rounds.specs.Named.{ArePlantsOf}
use Rattle.xfs_rounds.proofs.Planting.{plants_more}
use Rattle.xfs_rounds.proofs.trees.plants_of.Goals as goal

pub loop-i-init : goal.loop-i-init
loop-i-init c = record { long = search rules; each = λ i slot plant inside. absurd (omega arith) }

pub loop-i-preserved : goal.loop-i-preserved
loop-i-preserved c =
    plants_more c.args.slots.now c.loop-i.i c.loop-i.plants.items c.push_plant.new.plants.items c.index-slots-i.result (omega arith) c.index-slots-i.is c.loop-i.invariant
    c.in_ok-push_plant.ensures

pub returns : goal.returns
returns c =
    let last : c.loop-i.i ≡ length c.args.slots.now = omega arith in
    subst (λ (n : _). ArePlantsOf c.args.slots.now n c.loop-i.plants.items) last c.loop-i.invariant

pub returns-in_err-plants : goal.returns-in_err-plants
returns-in_err-plants c = IfOk-from_err c.from_residual.result _ c.from_residual.ensures.0

pub returns-in_err-push_plant : goal.returns-in_err-push_plant
returns-in_err-push_plant c = IfOk-from_err c.from_residual-in_err-push_plant.result _ c.from_residual-in_err-push_plant.ensures.0
