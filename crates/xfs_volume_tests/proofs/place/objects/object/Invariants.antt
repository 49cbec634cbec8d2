use Rattle.std.proofs.Common.{All}
use Rattle.xfs_place.specs.Objects.{IsAsk}
use Rattle.xfs_volume_tests.proofs.place.objects.object.Given as goal

abbrev pub invariant-loop-blocks : goal.invariant-loop-blocks
invariant-loop-blocks l = All IsAsk l.runs.items
