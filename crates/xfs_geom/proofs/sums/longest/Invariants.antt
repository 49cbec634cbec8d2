use Rattle.std.proofs.Common.{◌≡◌, max, drop}
use Rattle.xfs_geom.specs.Sums.{longest}
use Rattle.xfs_geom.proofs.sums.longest.Given as goal

abbrev pub invariant-loop-span : goal.invariant-loop-span
invariant-loop-span l = max l.most (longest (drop l.span-index l.spans)) ≡ longest l.spans
