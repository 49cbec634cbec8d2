use Rattle.std.proofs.Common.{◌≡◌, Some}
use Rattle.xfs_geom.specs.Volumes.{volume_of}
use Rattle.xfs_tree.specs.Blocks.{count_of, record_at, records_of}
use Rattle.xfs_tree.specs.Rules.{are_lawful}
use Rattle.xfs_tree.specs.Alone.{lawful_within}
use Rattle.xfs_tree.proofs.Rest.{rest_of}
use Rattle.xfs_tree.proofs.stepping.are_lawful_within.Given as goal

abbrev pub invariant-loop-i : goal.invariant-loop-i
invariant-loop-i g l =
    are_lawful (g.K.Kind.shape l.kind) (volume_of l.g) (Some l.before) (rest_of l.i (count_of l.block) (record_at (g.K.Kind.shape l.kind) l.block))
    ≡ lawful_within (g.K.Kind.shape l.kind) (volume_of l.g) (records_of (g.K.Kind.shape l.kind) l.block)
