use Rattle.std.proofs.Common.{◌≡◌, drop, map}
use Rattle.xfs_geom.specs.First.{first_false}
use Rattle.xfs_geom.specs.Fixed.{fixed_tests, fixed_word}
use Rattle.xfs_geom.proofs.fixed.first_fault.Given as goal

abbrev pub invariant-loop-fixed : goal.invariant-loop-fixed
invariant-loop-fixed l =
    first_false (fixed_tests (map fixed_word (drop l.fixed-index l.words)) l.sector)
    ≡ first_false (fixed_tests (map fixed_word l.words) l.sector)
