use Rattle.std.proofs.Common.{◌≡◌, drop, bytes_eq}
use Rattle.std.specs.List.{find}
use Rattle.xfs_objects.specs.Places.{measure_name}
use Rattle.xfs_objects.specs.declared.convert.Measure.{Measure}
use Rattle.xfs_objects.proofs.convert.find_named.Given as goal

abbrev pub invariant-loop-measure : goal.invariant-loop-measure
invariant-loop-measure l =
    let named : Measure → _ = λ measure. bytes_eq (measure_name measure) l.name in find named (drop l.measure-index l.measures) ≡ find named l.measures
