use Rattle.std.proofs.Common.{◌≡◌, ◌++◌, ◌+◌, ◌*◌}
use Rattle.std.specs.List.{flat_map, range_with_len}
use Rattle.xfs_objects.specs.Values.{group_text}
use Rattle.xfs_objects.proofs.values.push_groups.Given as goal

abbrev pub invariant-loop-group : goal.invariant-loop-group
invariant-loop-group l = l.text.items ≡ l.fn.text.items ++ flat_map (λ g. group_text l.block (l.at + 4 * g)) (range_with_len 0 l.group)
