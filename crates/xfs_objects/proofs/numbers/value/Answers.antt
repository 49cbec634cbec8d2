use Rattle.std.proofs.Common.{◌∙◌, arith}
use Rattle.xfs_objects.proofs.Capping.{capped_digit}
use Rattle.xfs_objects.proofs.numbers.value.Goals as goal

pub loop-digit-preserved : goal.loop-digit-preserved
loop-digit-preserved c =
    record {
      value = capped_digit _ _ _ _ _ _ c.loop-digit-test.true c.min-value.ensures c.digit_value.ensures.value c.requires.some ∙ c.loop-digit.invariant.value;
      most = omega (arith, c.min-value.ensures);
    }
