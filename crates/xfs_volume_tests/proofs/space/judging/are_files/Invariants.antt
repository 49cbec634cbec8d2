use Rattle.std.proofs.Common.{take}
use Rattle.std.specs.List.{All}
use Rattle.xfs_geom.specs.Volumes.{volume_of}
use Rattle.xfs_space.specs.Parts.{HasLawfulForks}
use Rattle.xfs_volume_tests.proofs.space.judging.are_files.Given as goal

abbrev pub invariant-loop-file : goal.invariant-loop-file
invariant-loop-file l = All (HasLawfulForks (volume_of l.g)) (take l.file-index l.files)
