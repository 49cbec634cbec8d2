use Rattle.std.proofs.Common.{◌≡◌, ℕ, ◌<◌, true, get_or}
use Rattle.xfs_dirdata.specs.declared.records.EntryRec.{EntryRec}
use Rattle.xfs_links.specs.Entries.{is_directory_number}
use Rattle.xfs_volume_tests.proofs.links.listed.are_known.Given as goal

abbrev pub invariant-loop-entry : goal.invariant-loop-entry
invariant-loop-entry l = (k : ℕ) (d : EntryRec) → k < l.entry-index → is_directory_number l.files (get_or l.entries k d).dir ≡ true
