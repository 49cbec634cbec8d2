use Rattle.std.proofs.Common.{◌≡◌, ◌++◌, drop}
use Rattle.xfs_changes.specs.Nodes.{nodes_of_files}
use Rattle.xfs_changes.proofs.nodes.nodes_of_files.Given as goal

abbrev pub invariant-loop-file : goal.invariant-loop-file
invariant-loop-file l = l.nodes.items ++ nodes_of_files (drop l.file-index l.files) ≡ nodes_of_files l.files
