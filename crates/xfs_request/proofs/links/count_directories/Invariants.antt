use Rattle.std.proofs.Common.{◌≡◌, ◌≤◌, count_by, take}
use Rattle.xfs_disk.specs.Lists.{is_among}
use Rattle.xfs_dirdata.specs.declared.records.EntryRec.{EntryRec}
use Rattle.xfs_request.proofs.links.count_directories.Given as goal

abbrev pub invariant-loop-entry : goal.invariant-loop-entry
invariant-loop-entry l = (l.count ≤ l.entry-index) × (l.count ≡ count_by (λ (e : EntryRec). is_among l.directories e.ino) (take l.entry-index l.own))
