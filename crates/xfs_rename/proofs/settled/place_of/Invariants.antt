use Rattle.std.proofs.Common.{◌≡◌, ◌+◌, drop, nat_lt}
use Rattle.std.specs.List.{prefix_len}
use Rattle.xfs_rename.proofs.settled.place_of.Given as goal

abbrev pub invariant-loop-index : goal.invariant-loop-index
invariant-loop-index l = l.index + prefix_len (λ x. nat_lt x l.number) (drop l.index l.numbers) ≡ prefix_len (λ x. nat_lt x l.number) l.numbers
