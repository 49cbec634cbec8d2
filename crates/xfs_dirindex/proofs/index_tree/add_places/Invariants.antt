use Rattle.std.proofs.Common.{◌≡◌, ◌++◌, drop}
use Rattle.xfs_dirindex.specs.IndexTree.{pairs_of_places}
use Rattle.xfs_dirindex.proofs.index_tree.add_places.Given as goal

abbrev pub invariant-loop-link : goal.invariant-loop-link
invariant-loop-link l = l.places.items ++ pairs_of_places (drop l.link-index l.links) ≡ l.fn.places.items ++ pairs_of_places l.links
