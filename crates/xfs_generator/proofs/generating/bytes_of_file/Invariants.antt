use Rattle.std.proofs.Common.{◌≡◌, map}
use Rattle.std.specs.List.{range_with_len}
use Rattle.xfs_generator.specs.Files.{byte_of_file}
use Rattle.xfs_generator.proofs.generating.bytes_of_file.Given as goal

abbrev pub invariant-loop-place : goal.invariant-loop-place
invariant-loop-place l = l.bytes.items ≡ map (byte_of_file l.number) (range_with_len 0 l.place)
