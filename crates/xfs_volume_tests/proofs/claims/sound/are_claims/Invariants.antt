use Rattle.std.proofs.Common.{take}
use Rattle.std.specs.List.{All}
use Rattle.xfs_claims.specs.Keeping.{IsClaim}
use Rattle.xfs_volume_tests.proofs.claims.sound.are_claims.Given as goal

abbrev pub invariant-loop-file : goal.invariant-loop-file
invariant-loop-file l = All IsClaim (take l.file-index l.files)
