use Rattle.xfs_place.proofs.Branches.{Descends}
use Rattle.xfs_place.proofs.greatest.descend.Given as goal

abbrev pub invariant-loop-level : goal.invariant-loop-level
invariant-loop-level l = Descends l.nodes l.least l._level l.node
