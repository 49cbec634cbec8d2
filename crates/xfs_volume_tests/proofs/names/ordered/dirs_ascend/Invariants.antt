use Rattle.std.proofs.Common.{drop, map}
use Rattle.xfs_volume.specs.declared.directories.DirRec.{DirRec}
use Rattle.xfs_naming.specs.Naming.{NumbersAscend}
use Rattle.xfs_volume_tests.proofs.names.ordered.dirs_ascend.Given as goal

abbrev pub invariant-loop-dir : goal.invariant-loop-dir
invariant-loop-dir l = NumbersAscend l.low (map (λ (d : DirRec). d.ino) (drop l.dir-index l.dirs)) → NumbersAscend 0 (map (λ (d : DirRec). d.ino) l.dirs)
