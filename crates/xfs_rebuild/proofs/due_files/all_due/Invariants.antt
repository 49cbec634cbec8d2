use Rattle.std.proofs.Common.{◌≡◌, ◌++◌, drop, map}
use Rattle.xfs_request.specs.Slots.{links_due}
use Rattle.xfs_rebuild.proofs.due_files.all_due.Given as goal

abbrev pub invariant-loop-file : goal.invariant-loop-file
invariant-loop-file l = l.dues.items ++ map (links_due l.root l.files l.entries) (drop l.file-index l.files) ≡ map (links_due l.root l.files l.entries) l.files
