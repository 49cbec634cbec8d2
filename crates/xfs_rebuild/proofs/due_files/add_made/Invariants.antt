use Rattle.std.proofs.Common.{◌≡◌, drop}
use Rattle.xfs_rebuild.specs.Names.{made_files, with_made_files}
use Rattle.xfs_rebuild.proofs.due_files.add_made.Given as goal

abbrev pub invariant-loop-slot : goal.invariant-loop-slot
invariant-loop-slot l = with_made_files (made_files (drop l.slot-index l.slots)) l.files.items ≡ with_made_files (made_files l.slots) l.fn.files.items
