use Rattle.std.proofs.Common.{◌≡◌, true, drop}
use Rattle.std.specs.List.{All}
use Rattle.xfs_dirdata.specs.declared.records.EntryRec.{EntryRec}
use Rattle.xfs_links.specs.Entries.{DirectoriesAscend, is_directory_number}
use Rattle.xfs_changes.proofs.nodes.are_entries.Given as goal

abbrev pub invariant-loop-entry : goal.invariant-loop-entry
invariant-loop-entry l = record {
  known : All (λ (e : EntryRec). is_directory_number l.nodes e.dir ≡ true) (drop l.entry-index l.entries) → All (λ (e : EntryRec). is_directory_number l.nodes e.dir ≡ true) l.entries;
  group : DirectoriesAscend l.least (drop l.entry-index l.entries) → DirectoriesAscend 0 l.entries;
}
