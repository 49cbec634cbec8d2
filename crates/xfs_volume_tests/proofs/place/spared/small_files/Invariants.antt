use Rattle.std.proofs.Common.{All}
use Rattle.xfs_place.specs.declared.wanted.Object.{Object}
use Rattle.xfs_place.specs.Objects.{IsAsk}
use Rattle.xfs_volume_tests.proofs.place.spared.small_files.Given as goal

abbrev pub invariant-loop-i : goal.invariant-loop-i
invariant-loop-i l = All (λ (o : Object). All IsAsk o.runs) l.objects.items
