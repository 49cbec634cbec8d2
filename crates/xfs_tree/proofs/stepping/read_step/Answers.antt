use Rattle.std.proofs.Common.{None, sym, ◌∙◌}
use Rattle.std.proofs.lemmas.Result.{IfOk-from_err}
use Rattle.xfs_geom.specs.Volumes.{volume_of}
use Rattle.xfs_tree.specs.Alone.{rule_behind}
use Rattle.xfs_tree.proofs.Alone.{early_behind, late_behind}
use Rattle.xfs_tree.proofs.stepping.read_step.Goals as goal

pub returns-in-Some : goal.returns-in-Some
returns-in-Some g c =
    let s = g.K.Kind.shape c.args.kind.now in
    let v = volume_of c.args.g.now in
    let spot = c.args.spot.now in
    record {
      fault = λ before.
          early_behind s v before spot.level spot.left spot.right spot.seat c.args.block.now c.in-Some.rule c.early_fault.result c.in-Some.is c.early_fault.ensures.fault
          ∙ (λ i. rule_behind s v before (sym c.broken.ensures.first i) (sym c.broken.ensures.alone i));
      children = λ none. cc;
      records = λ none. cc;
    }

pub returns-in-Some-late_fault : goal.returns-in-Some-late_fault
returns-in-Some-late_fault g c =
    let s = g.K.Kind.shape c.args.kind.now in
    let v = volume_of c.args.g.now in
    let spot = c.args.spot.now in
    record {
      fault = λ before.
          late_behind s v before spot.level spot.left spot.right spot.seat c.args.block.now c.early_fault.result c.late_fault.result c.first_of-first.result
          c.in-None.is c.early_fault.ensures.fault c.first_of-first.ensures c.late_fault.ensures
          ∙ (λ i. rule_behind s v before (sym c.broken-in-Some-late_fault.ensures.first i) ((c.in-Some-late_fault.is ∙ sym c.broken-in-Some-late_fault.ensures.alone) i));
      children = λ none. cc;
      records = λ none. cc;
    }

pub returns : goal.returns
returns g c =
    let s = g.K.Kind.shape c.args.kind.now in
    let v = volume_of c.args.g.now in
    let spot = c.args.spot.now in
    record {
      fault = λ before.
          late_behind s v before spot.level spot.left spot.right spot.seat c.args.block.now c.early_fault.result None c.first_of-first.result
          c.in-None.is c.early_fault.ensures.fault c.first_of-first.ensures (sym c.in-None-late_fault.is ∙ c.late_fault.ensures);
      children = λ none. c.in_ok-children.ensures;
      records = λ none. c.in_ok-records.ensures;
    }

pub early_fault-requires-clause-block : goal.early_fault-requires-clause-block
early_fault-requires-clause-block g c = λ κs lives. c.requires.block

pub early_fault-requires-clause-inside : goal.early_fault-requires-clause-inside
early_fault-requires-clause-inside g c = λ κs lives. c.requires.inside

pub first_of-first-requires-clause-block : goal.first_of-first-requires-clause-block
first_of-first-requires-clause-block g c = λ κs lives. c.requires.block

pub first_of-first-requires-clause-count : goal.first_of-first-requires-clause-count
first_of-first-requires-clause-count g c = λ κs lives. c.early_fault.ensures.fits c.in-None.is

pub late_fault-requires-clause-block : goal.late_fault-requires-clause-block
late_fault-requires-clause-block g c = λ κs lives. c.requires.block

pub late_fault-requires-clause-count : goal.late_fault-requires-clause-count
late_fault-requires-clause-count g c = λ κs lives. c.early_fault.ensures.fits c.in-None.is

pub children_at-requires-clause-block : goal.children_at-requires-clause-block
children_at-requires-clause-block g c = λ κs lives. c.requires.block

pub children_at-requires-clause-count : goal.children_at-requires-clause-count
children_at-requires-clause-count g c = λ κs lives. c.early_fault.ensures.fits c.in-None.is

pub records_at-requires-clause-block : goal.records_at-requires-clause-block
records_at-requires-clause-block g c = λ κs lives. c.requires.block

pub records_at-requires-clause-count : goal.records_at-requires-clause-count
records_at-requires-clause-count g c = λ κs lives. c.early_fault.ensures.fits c.in-None.is

pub returns-in_err-children : goal.returns-in_err-children
returns-in_err-children g c = IfOk-from_err c.from_residual.result _ c.from_residual.ensures.0

pub returns-in_err-records : goal.returns-in_err-records
returns-in_err-records g c = IfOk-from_err c.from_residual-in_err-records.result _ c.from_residual-in_err-records.ensures.0
