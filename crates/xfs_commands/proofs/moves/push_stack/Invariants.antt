use Rattle.std.proofs.Common.{◌≡◌, ◌++◌}
use Rattle.std.specs.List.{flat_map, range_with_len}
use Rattle.xfs_commands.specs.Commands.{line_of_stack}
use Rattle.xfs_commands.proofs.moves.push_stack.Given as goal

abbrev pub invariant-loop-i : goal.invariant-loop-i
invariant-loop-i l = l.text.items ≡ l.fn.text.items ++ flat_map (line_of_stack l.stack) (range_with_len 0 l.i)
