use Rattle.std.proofs.Common.{refl, arith}
use Rattle.xfs_volume_tests.proofs.catalogs.geometry.Goals as goal

pub invariant_of-result : goal.invariant_of-result
invariant_of-result c =
    record {
      shape = record {
        groups = record { two = omega arith; few = omega arith; large = omega arith; small = omega arith; covered = omega arith; last = omega arith };
        addresses = record { short = omega arith; enough = omega arith; least = omega arith };
        log_inside = record { large = omega arith; small = omega arith; group = omega arith; behind = omega arith; inside = omega arith };
        root = record { slot = omega arith; group = omega arith; behind = omega arith; inside = omega arith; apart = refl };
        log_sectors = refl;
      };
    }
