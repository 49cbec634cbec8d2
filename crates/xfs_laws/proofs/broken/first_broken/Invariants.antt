use Rattle.std.proofs.Common.{◌≡◌, drop}
use Rattle.xfs_volume.specs.Laws.{first_broken}
use Rattle.xfs_laws.proofs.broken.first_broken.Given as goal

abbrev pub invariant-loop-law : goal.invariant-loop-law
invariant-loop-law l = first_broken (drop l.law-index l.laws) ≡ first_broken l.laws
