-- One more block is written.
use Rattle.std.proofs.Common.{rules, ◌∙◌, [], get_or, Some, refl, sym, ap, arith}
use Rattle.std.proofs.lemmas.Option.{get_or_from_slice_get}
use Rattle.std.specs.List.{Contains}
use Rattle.xfs_disk.specs.Blocks.{Image}
use Rattle.xfs_disk.specs.Counts.{raised}
use Rattle.xfs_writing.specs.Writing.{writes_of_rows}
use Rattle.xfs_writing.specs.declared.rows.Row.{Row}
use Rattle.xfs_writing.proofs.Counted.{raised_none, raised_once}
use Rattle.xfs_writing.proofs.Mixing.{among, may_none, may_more, mixed_none, mixed_more}
use Rattle.xfs_writing.proofs.Steps.{next_write, old_or_next}
use Rattle.xfs_writing.proofs.writing.write_each.Goals as goal

abbrev no_row : Row
no_row = record { at = 0; index = 0 }

pub loop-row-init : goal.loop-row-init
loop-row-init g c =
    let ws = writes_of_rows c.args.bank.now c.args.rows.now in
    record {
      told = search rules;
      count = search rules;
      counted = sym (raised_none (g.D.Disk.writes c.args.disk.now));
      size = search rules;
      faults = search rules;
      reads = search rules;
      risen = search rules;
      tells = λ tells. tells;
      later = λ tells. omega arith;
      may = λ tells image told just. may_none ws image (g.D.Disk.may_leave c.args.disk.now) just;
      past = λ tells image told just. mixed_none ws image (g.D.Disk.moment c.args.disk.now) (g.D.Disk.left_since c.args.disk.now);
    }

pub returns-in-Err-clause-partly : goal.returns-in-Err-clause-partly
returns-in-Err-clause-partly g c = λ image told.
    let bank = c.args.bank.now in
    let row = get_or c.args.rows.now c.loop-row.row-index no_row in
    old_or_next bank c.args.rows.now c.loop-row.row-index c.loop-row.written row no_row c.view.result.now image (g.D.Disk.holds c.write.new.self)
    c.loop-row-test.true refl (sym (get_or_from_slice_get bank row.index c.view.result.now [] c.view.ensures.block)) c.loop-row.invariant.count
    (c.in-Err.ensures.old_or_new _ (c.loop-row.invariant.told image told))

pub returns-in-Err-clause-stops : goal.returns-in-Err-clause-stops
returns-in-Err-clause-stops g c = λ tells image told just t stopped low left.
    let D = g.D.Disk in
    let bank = c.args.bank.now in
    let ws = writes_of_rows bank c.args.rows.now in
    let row : Row = get_or c.args.rows.now c.loop-row.row-index no_row in
    let due : Contains ws (row.at, c.view.result.now) =
    among bank c.args.rows.now c.loop-row.row-index row no_row c.view.result.now c.loop-row-test.true refl
    (sym (get_or_from_slice_get bank row.index c.view.result.now [] c.view.ensures.block)) in
    let told_before = c.loop-row.invariant.tells tells in
    let values = may_more ws image row.at c.view.result.now (D.may_leave c.loop-row.disk) (D.may_leave c.write.new.self) due
    (c.loop-row.invariant.may tells image told just) (c.in-Err.ensures.stops told_before) in
    let mixed = mixed_more ws image (D.moment c.args.disk.now) (D.moment c.loop-row.disk) (D.moment c.write.new.self) (D.left_since c.args.disk.now)
    (D.left_since c.loop-row.disk) (D.left_since c.write.new.self) (D.may_leave c.write.new.self) (c.loop-row.invariant.later tells)
    (c.in-Err.ensures.time told_before) (c.loop-row.invariant.past tells image told just) values in
    mixed.each t stopped low left

pub loop-row-preserved : goal.loop-row-preserved
loop-row-preserved g c =
    let D = g.D.Disk in
    let bank = c.args.bank.now in
    let ws = writes_of_rows bank c.args.rows.now in
    let row : Row = get_or c.args.rows.now c.loop-row.row-index no_row in
    let due : Contains ws (row.at, c.view.result.now) =
    among bank c.args.rows.now c.loop-row.row-index row no_row c.view.result.now c.loop-row-test.true refl
    (sym (get_or_from_slice_get bank row.index c.view.result.now [] c.view.ensures.block)) in
    record {
      told = λ image told.
          c.in-Ok.ensures.written _ (c.loop-row.invariant.told image told)
          ∙ ap (λ (i : Image). Some i)
          (next_write bank c.args.rows.now c.loop-row.row-index row no_row c.view.result.now image c.loop-row-test.true refl
          (sym (get_or_from_slice_get bank row.index c.view.result.now [] c.view.ensures.block)));
      count = search rules;
      counted = c.in-Ok.ensures.writes ∙ ap raised c.loop-row.invariant.counted ∙ sym (raised_once c.loop-row.row-index (D.writes c.args.disk.now));
      size = search rules;
      faults = search rules;
      reads = search rules;
      risen = search rules;
      tells = λ tells. c.in-Ok.ensures.tells (c.loop-row.invariant.tells tells);
      later = λ tells.
          let time = c.in-Ok.ensures.time (c.loop-row.invariant.tells tells) in
          let before = c.loop-row.invariant.later tells in
          let more = time.later in
          omega (arith, before, more);
      may = λ tells image told just.
          may_more ws image row.at c.view.result.now (D.may_leave c.loop-row.disk) (D.may_leave c.write.new.self) due
          (c.loop-row.invariant.may tells image told just) (c.in-Ok.ensures.stops (c.loop-row.invariant.tells tells));
      past = λ tells image told just.
          mixed_more ws image (D.moment c.args.disk.now) (D.moment c.loop-row.disk) (D.moment c.write.new.self) (D.left_since c.args.disk.now)
          (D.left_since c.loop-row.disk) (D.left_since c.write.new.self) (D.may_leave c.write.new.self) (c.loop-row.invariant.later tells)
          (c.in-Ok.ensures.time (c.loop-row.invariant.tells tells)) (c.loop-row.invariant.past tells image told just)
          (may_more ws image row.at c.view.result.now (D.may_leave c.loop-row.disk) (D.may_leave c.write.new.self) due
          (c.loop-row.invariant.may tells image told just) (c.in-Ok.ensures.stops (c.loop-row.invariant.tells tells)));
    }

pub returns-clause-stops : goal.returns-clause-stops
returns-clause-stops g c = λ tells image told just t stopped low left. let mixed = c.loop-row.invariant.past tells image told just in mixed.each t stopped low left
