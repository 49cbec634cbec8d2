use Rattle.std.proofs.Common.{◌≡◌, drop}
use Rattle.xfs_names.specs.Place.{free_inode}
use Rattle.xfs_names.proofs.place.free_inode.Given as goal

abbrev pub invariant-loop-first : goal.invariant-loop-first
invariant-loop-first l = free_inode l.nodes l.root (drop l.first-index l.clusters) ≡ free_inode l.nodes l.root l.clusters
