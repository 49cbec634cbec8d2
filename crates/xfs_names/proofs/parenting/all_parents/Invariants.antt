use Rattle.std.proofs.Common.{◌≡◌, ◌++◌, drop, map}
use Rattle.xfs_links.specs.Connected.{directory_numbers}
use Rattle.xfs_names.specs.Private.Joined.{told_parents}
use Rattle.xfs_names.proofs.parenting.all_parents.Given as goal

abbrev pub invariant-loop-node : goal.invariant-loop-node
invariant-loop-node l = l.all.items ++ map (told_parents l.parents l.root l.lost l.new) (directory_numbers (drop l.node-index l.nodes)) ≡ map (told_parents l.parents l.root l.lost l.new) (directory_numbers l.nodes)
