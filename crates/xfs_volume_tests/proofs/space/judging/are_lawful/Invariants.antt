use Rattle.std.proofs.Common.{◌≡◌, None, drop}
use Rattle.xfs_geom.specs.Volumes.{volume_of}
use Rattle.xfs_tree.specs.Rules.{are_lawful}
use Rattle.xfs_volume_tests.proofs.space.judging.are_lawful.Given as goal

abbrev pub invariant-loop-item : goal.invariant-loop-item
invariant-loop-item g l = are_lawful (g.K.Kind.shape l.kind) (volume_of l.g) l.before (drop l.item-index l.records) ≡ are_lawful (g.K.Kind.shape l.kind) (volume_of l.g) None l.records
