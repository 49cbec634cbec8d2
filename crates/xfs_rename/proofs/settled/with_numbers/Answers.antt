use Rattle.std.proofs.lemmas.Result.{IfOk-from_err}
use Rattle.xfs_rename.proofs.Further.{numbers_end, numbers_more}
use Rattle.xfs_rename.proofs.settled.with_numbers.Goals as goal

pub loop-number-preserved : goal.loop-number-preserved
loop-number-preserved c =
    numbers_more c.args.more.now c.loop-number.number-index 0 c.loop-number.numbers.items c.add_number.new.numbers.items _ c.loop-number-test.true c.in_ok-add_number.ensures
    c.loop-number.invariant

pub returns-in_err-add_number : goal.returns-in_err-add_number
returns-in_err-add_number c = IfOk-from_err c.from_residual.result _ c.from_residual.ensures.0

pub returns : goal.returns
returns c = numbers_end c.args.more.now c.loop-number.number-index c.loop-number.numbers.items _ c.loop-number-test.false c.loop-number.invariant
