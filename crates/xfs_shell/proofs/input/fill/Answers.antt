use Rattle.std.proofs.Common.{drop, arith, refl}
use Rattle.xfs_shell.proofs.Filling.{filled_end, filled_whole, more_filled}
use Rattle.xfs_shell.proofs.input.fill.Goals as goal

pub loop-count-preserved : goal.loop-count-preserved
loop-count-preserved g c =
    record {
      within = c.in-Ok.ensures.within;
      left =
          λ left told.
          let at = c.loop-count.invariant.left left told in
          let m = c.in-Ok.ensures.moved at.0 at.1 in
          (drop c.in-Ok.taken at.0, m.2, more_filled left c.loop-count.buffer c.take_behind.new.buffer at.0 c.loop-count.count c.in-Ok.taken at.2 m.1);
      faults = omega (arith, c.loop-count.invariant.faults, c.in-Ok.ensures.cause);
    }

pub loop-count-init : goal.loop-count-init
loop-count-init g c = record { within = omega arith; left = λ left told. (left, told, refl); faults = omega arith }

pub take_behind-requires : goal.take_behind-requires
take_behind-requires g c = c.loop-count-test.true

pub returns-in-Ok-eq0-clause-filled : goal.returns-in-Ok-eq0-clause-filled
returns-in-Ok-eq0-clause-filled g c = λ left told.
    let at = c.loop-count.invariant.left left told in
    let is = c.in-Ok-eq0.ensures in
    let m = is.moved at.0 at.1 in (
      omega (arith, c.loop-count-test.true, c.take_behind.auto.buffer),
      filled_end left c.loop-count.buffer c.take_behind.new.buffer at.0 c.loop-count.count c.in-Ok-eq0.field-0 c.in-Ok-eq0.field-0-test (is.end c.in-Ok-eq0.field-0-test at.0 at.1) at.2 m.1,
    )

pub returns-clause-filled : goal.returns-clause-filled
returns-clause-filled g c = λ left told.
    let at = c.loop-count.invariant.left left told in
    filled_whole left c.loop-count.buffer at.0 c.loop-count.count c.loop-count-test.false at.2
