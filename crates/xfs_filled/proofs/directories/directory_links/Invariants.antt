use Rattle.std.proofs.Common.{◌≡◌, ◌+◌, ◌≤◌, take}
use Rattle.xfs_filled.specs.Entries.{directories_in}
use Rattle.xfs_filled.proofs.directories.directory_links.Given as goal

abbrev pub invariant-loop-entry : goal.invariant-loop-entry
invariant-loop-entry l = record {
  is : l.links ≡ 2 + directories_in (take l.entry-index l.entries);
  few : l.links ≤ 2 + l.entry-index;
}
