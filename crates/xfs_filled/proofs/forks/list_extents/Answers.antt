use Rattle.std.proofs.Common.{[], ◌∙◌, ap, sym, subst, take_all, arith}
use Rattle.std.proofs.lemmas.List.Elements.{All-nil}
use Rattle.std.specs.List.{All, flat_map}
use Rattle.std.proofs.lemmas.Result.{IfOk-from_err}
use borrow.Author.Count.{falls}
use Rattle.xfs_word.specs.Extent.{IsPackable}
use Rattle.xfs_geom.specs.Volumes.{volume_of}
use Rattle.xfs_geom.specs.declared.records.Run.{Run}
use Rattle.xfs_render.proofs.ObjectSteps.{flat_more}
use Rattle.xfs_filled.specs.Forks.{extents_of_run}
use Rattle.xfs_filled.proofs.forks.list_extents.Goals as goal

pub loop-run-preserved : goal.loop-run-preserved
loop-run-preserved c =
    let d : Run = record { start = 0; count = 0; owner = 0; offset_word = 0 } in
    record {
      value = flat_more (extents_of_run (volume_of c.args.g.now)) [] c.loop-run.extents.items c.push_extents.new.extents.items c.args.runs.now c.loop-run.run-index d c.loop-run-test.true
          c.loop-run.invariant.value c.in_ok-push_extents.ensures.value;
      small = c.in_ok-push_extents.ensures.small;
    }

pub push_extents-requires-clause-inside : goal.push_extents-requires-clause-inside
push_extents-requires-clause-inside c =
    let d : Run = record { start = 0; count = 0; owner = 0; offset_word = 0 } in
    (c.requires.inside c.loop-run.run-index d c.loop-run-test.true).1

pub push_extents-requires-clause-offset : goal.push_extents-requires-clause-offset
push_extents-requires-clause-offset c =
    let d : Run = record { start = 0; count = 0; owner = 0; offset_word = 0 } in
    c.requires.offsets c.loop-run.run-index d c.loop-run-test.true

pub push_extents-requires-clause-small : goal.push_extents-requires-clause-small
push_extents-requires-clause-small c = c.loop-run.invariant.small

pub loop-run-init : goal.loop-run-init
loop-run-init c = record { value = c.new-extents.ensures.items; small = subst (All IsPackable) (sym c.new-extents.ensures.items) (All-nil IsPackable) }

pub loop-run-smaller : goal.loop-run-smaller
loop-run-smaller c = falls _ c.loop-run.run-index c.loop-run-test.true

pub returns-in_err-push_extents : goal.returns-in_err-push_extents
returns-in_err-push_extents c = record {
  value = IfOk-from_err c.from_residual.result _ c.from_residual.ensures.0;
  small = IfOk-from_err c.from_residual.result _ c.from_residual.ensures.0;
}

pub returns : goal.returns
returns c = record {
  value = c.loop-run.invariant.value
      ∙ ap (flat_map (extents_of_run (volume_of c.args.g.now))) (take_all c.loop-run.run-index c.args.runs.now (omega (arith, c.loop-run-test.false)));
  small = c.loop-run.invariant.small;
}
