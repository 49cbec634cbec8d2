use Rattle.std.proofs.Common.{◌≡◌, ◌≤◌, filter, length, take}
use Rattle.xfs_dirdata.specs.declared.records.EntryRec.{EntryRec}
use Rattle.xfs_links.specs.Entries.{is_directory_number}
use Rattle.xfs_names.proofs.linking.count_directories.Given as goal

abbrev pub invariant-loop-entry : goal.invariant-loop-entry
invariant-loop-entry l = (l.count ≤ l.entry-index) × (l.count ≡ length (filter (λ (e : EntryRec). is_directory_number l.nodes e.ino) (take l.entry-index l.own)))
