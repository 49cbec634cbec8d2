use Rattle.std.proofs.Common.{◌≡◌, ◌==◌, ◌+◌, drop}
use Rattle.std.specs.List.{prefix_len}
use Rattle.xfs_naming.proofs.runs.run_length.Given as goal

abbrev pub invariant-loop-i : goal.invariant-loop-i
invariant-loop-i g l = l.i + prefix_len (λ x. g.T.Numbered.key x == l.number) (drop l.i l.records) ≡ prefix_len (λ x. g.T.Numbered.key x == l.number) l.records
