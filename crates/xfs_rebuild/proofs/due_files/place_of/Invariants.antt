use Rattle.std.proofs.Common.{◌≡◌, ◌+◌, drop, nat_lt}
use Rattle.std.specs.List.{prefix_len}
use Rattle.xfs_rebuild.proofs.due_files.place_of.Given as goal

abbrev pub invariant-loop-index : goal.invariant-loop-index
invariant-loop-index g l = l.index + prefix_len (λ x. nat_lt (g.T.Numbered.key x) l.number) (drop l.index l.records) ≡ prefix_len (λ x. nat_lt (g.T.Numbered.key x) l.number) l.records
