use Rattle.std.proofs.Common.{◌≡◌, drop, None}
use Rattle.std.specs.Option.{option_copied}
use Rattle.xfs_geom.specs.Volumes.{volume_of}
use Rattle.xfs_tree.specs.Rules.{are_lawful}
use Rattle.xfs_laws.proofs.parts.are_lawful.Given as goal

abbrev pub invariant-loop-record : goal.invariant-loop-record
invariant-loop-record g l =
    are_lawful (g.K.Kind.shape l.kind) (volume_of l.g) (option_copied l.before) (drop l.record-index l.records)
    ≡ are_lawful (g.K.Kind.shape l.kind) (volume_of l.g) None l.records
