use Rattle.std.proofs.Common.{◌≡◌, ◌++◌, drop}
use Rattle.xfs_rebuild.specs.Found.{reserved_of}
use Rattle.xfs_rebuild.proofs.found.reserved_of.Given as goal

abbrev pub invariant-loop-group : goal.invariant-loop-group
invariant-loop-group l = l.blocks.items ++ reserved_of (drop l.group-index l.trees) ≡ reserved_of l.trees
