use Rattle.std.proofs.Common.{◌≡◌, drop, map}
use Rattle.xfs_volume.specs.Laws.{first_difference}
use Rattle.xfs_space.specs.SpaceLaws.{span_number}
use Rattle.xfs_space.proofs.free_space.first_difference.Given as goal

abbrev pub invariant-loop-index : goal.invariant-loop-index
invariant-loop-index l = first_difference (map span_number (drop l.index l.held)) (map span_number (drop l.index l.due)) ≡ first_difference (map span_number l.held) (map span_number l.due)
