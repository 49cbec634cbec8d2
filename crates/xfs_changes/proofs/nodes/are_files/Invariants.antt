use Rattle.std.proofs.Common.{◌<◌, ◌^◌, drop}
use Rattle.std.specs.List.{All}
use Rattle.xfs_links.specs.declared.records.NodeRec.{NodeRec}
use Rattle.xfs_links.specs.Entries.{NodesAscend}
use Rattle.xfs_changes.proofs.nodes.are_files.Given as goal

abbrev pub invariant-loop-node : goal.invariant-loop-node
invariant-loop-node l = record {
  low : All (λ (f : NodeRec). f.ino < 2 ^ 32) (drop l.node-index l.nodes) → All (λ (f : NodeRec). f.ino < 2 ^ 32) l.nodes;
  ascend : NodesAscend l.least (drop l.node-index l.nodes) → NodesAscend 0 l.nodes;
}
