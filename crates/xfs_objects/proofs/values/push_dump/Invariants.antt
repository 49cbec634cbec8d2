use Rattle.std.proofs.Common.{◌≡◌, ◌++◌}
use Rattle.std.specs.List.{flat_map, range_with_len}
use Rattle.xfs_objects.specs.Values.{dump_line}
use Rattle.xfs_objects.proofs.values.push_dump.Given as goal

abbrev pub invariant-loop-line : goal.invariant-loop-line
invariant-loop-line l = l.text.items ≡ l.fn.text.items ++ flat_map (dump_line l.block) (range_with_len 0 l.line)
