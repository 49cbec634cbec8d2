use Rattle.std.proofs.Common.{◌≡◌, map, take}
use Rattle.xfs_names.specs.Wanted.{with_links}
use Rattle.xfs_names.proofs.linking.all_links.Given as goal

abbrev pub invariant-loop-node : goal.invariant-loop-node
invariant-loop-node l = l.all.items ≡ map (with_links l.nodes l.entries l.root) (take l.node-index l.nodes)
