use Rattle.std.proofs.Common.{ℕ, ◌==◌, take}
use Rattle.std.specs.List.{list_any}
use Rattle.xfs_dirdata.specs.declared.records.EntryRec.{EntryRec}
use Rattle.xfs_naming.specs.Private.Walking.{HasMarked}
use Rattle.xfs_naming.proofs.walks.mark_named.Given as goal

abbrev pub invariant-loop-entry : goal.invariant-loop-entry
invariant-loop-entry l = HasMarked l.names.files.now (λ (x : ℕ). list_any (λ (e : EntryRec). e.ino == x) (take l.entry-index l.own)) l.initial.reached.keys l.reached.keys l.initial.waiting.items l.waiting.items
