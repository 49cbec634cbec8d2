use Rattle.std.proofs.Common.{◌≡◌, ◌+◌, ◌*◌, ◌==◌, true}
use Rattle.std.specs.List.{list_all, range_with_len}
use Rattle.xfs_word.specs.Field.{field_of}
use Rattle.xfs_dirindex.specs.Leaf.{best_length_of}
use Rattle.xfs_dirindex.proofs.values.are_values.Given as goal

abbrev pub invariant-loop-j : goal.invariant-loop-j
invariant-loop-j l = list_all (λ j. field_of l.bytes (l.at + 2 * j) 2 == best_length_of l.bests (l.first + j)) (range_with_len 0 l.j) ≡ true
