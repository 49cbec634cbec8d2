use Rattle.std.proofs.Common.{take}
use Rattle.xfs_links.specs.Places.{taken_at}
use Rattle.xfs_links.specs.Private.Taken.{AreTaken}
use Rattle.xfs_links.proofs.orphans.taken_names.Given as goal

abbrev pub invariant-loop-candidate : goal.invariant-loop-candidate
invariant-loop-candidate l = AreTaken l.taken (taken_at l.entries (take l.candidate-index l.kept) l.lost)
