use Rattle.std.proofs.Common.{◌≡◌, map}
use Rattle.std.specs.List.{range_with_len}
use Rattle.xfs_generator.specs.Files.{generated_node}
use Rattle.xfs_generator.proofs.generating.generate_nodes.Given as goal

abbrev pub invariant-loop-place : goal.invariant-loop-place
invariant-loop-place l = l.nodes.items ≡ map generated_node (range_with_len 0 l.place)
