use Rattle.std.proofs.Common.{◌≡◌, ◌^◌, ◌≤◌, min, drop}
use Rattle.std.specs.Str.Parse.{digits_value, digits_value_after}
use Rattle.xfs_objects.proofs.numbers.value.Given as goal

abbrev pub invariant-loop-digit : goal.invariant-loop-digit
invariant-loop-digit l =
    record {
      value : min (digits_value_after l.base l.value (drop l.digit-index l.digits)) (2 ^ 64) ≡ min (digits_value l.base l.digits) (2 ^ 64);
      most : l.value ≤ 2 ^ 64;
    }
