use Rattle.std.proofs.Common.{◌≡◌, map}
use Rattle.std.specs.List.{range_with_len}
use Rattle.xfs_generator.specs.Files.{generated_content}
use Rattle.xfs_generator.proofs.generating.generate_contents.Given as goal

abbrev pub invariant-loop-place : goal.invariant-loop-place
invariant-loop-place l = l.contents.items ≡ map generated_content (range_with_len 0 l.place)
