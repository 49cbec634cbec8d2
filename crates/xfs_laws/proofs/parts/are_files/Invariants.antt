use Rattle.std.proofs.Common.{ℕ, ◌<◌, get_or}
use Rattle.xfs_geom.specs.Volumes.{volume_of}
use Rattle.xfs_space.specs.Parts.{HasLawfulForks}
use Rattle.xfs_volume.specs.declared.files.FileRec.{FileRec}
use Rattle.xfs_laws.proofs.parts.are_files.Given as goal

abbrev pub invariant-loop-file : goal.invariant-loop-file
invariant-loop-file l = (k : ℕ) (d : FileRec) → k < l.file-index → HasLawfulForks (volume_of l.g) (get_or l.files k d)
