use Rattle.std.proofs.Common.{◌≡◌, ◌++◌, map, take, drop}
use Rattle.xfs_names.specs.Wanted.{with_type}
use Rattle.xfs_names.proofs.joining.set_types.Given as goal

abbrev pub invariant-loop-entry : goal.invariant-loop-entry
invariant-loop-entry l = l.entries ≡ map (with_type l.nodes) (take l.entry-index l.fn.entries) ++ drop l.entry-index l.fn.entries
