use Rattle.std.proofs.lemmas.Result.{IfOk-from_err}
use Rattle.std.proofs.Common.{◌-◌, None, length, ◌∙◌}
use Rattle.std.proofs.Math.ListN.{length-set}
use Rattle.xfs_links.specs.declared.walk.Attached.{Attached}
use Rattle.xfs_links.proofs.Prefixed.{one_less, parents_next}
use Rattle.xfs_links.proofs.walk.parents_of.Goals as goal

pub loop-left-preserved : goal.loop-left-preserved
loop-left-preserved c =
    let none : Attached = record { directory = 0; parent = None } in
    let left = c.loop-left.left - 1 in
    let step = one_less c.loop-left.left (length c.args.turn.now) c.loop-left-test.true c.loop-left.invariant.low in
    record {
      size = length-set c.loop-left.parents.items _ _ ∙ c.loop-left.invariant.size;
      low = step.2;
      parents = parents_next c.loop-left.parents.items c.args.count c.args.turn.now left c.loop-left.left none c.loop-left.invariant.size step.0 c.loop-left.invariant.low
          (c.requires.inside left none step.1) c.loop-left.invariant.parents;
    }

pub returns-in_err-parents : goal.returns-in_err-parents
returns-in_err-parents c = record { size = IfOk-from_err c.from_residual.result _ c.from_residual.ensures.0; parents = IfOk-from_err c.from_residual.result _ c.from_residual.ensures.0 }
