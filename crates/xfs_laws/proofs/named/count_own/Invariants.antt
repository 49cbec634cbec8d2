use Rattle.std.proofs.Common.{◌≡◌, ◌==◌, ◌+◌, drop}
use Rattle.std.specs.List.{prefix_len}
use Rattle.xfs_dirdata.specs.declared.records.EntryRec.{EntryRec}
use Rattle.xfs_laws.proofs.named.count_own.Given as goal

abbrev pub invariant-loop-index : goal.invariant-loop-index
invariant-loop-index l = l.index + prefix_len (λ (e : EntryRec). e.dir == l.dir) (drop l.index l.entries) ≡ prefix_len (λ (e : EntryRec). e.dir == l.dir) l.entries
