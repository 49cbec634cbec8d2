use Rattle.std.proofs.Common.{◌≡◌, max, drop}
use Rattle.xfs_dirindex.specs.Data.{longest_span}
use Rattle.xfs_dirindex.proofs.data.longest_span.Given as goal

abbrev pub invariant-loop-span : goal.invariant-loop-span
invariant-loop-span l = max l.length (longest_span (drop l.span-index l.free)) ≡ longest_span l.free
