use Rattle.std.proofs.Common.{◌≡◌, true, take}
use Rattle.std.specs.List.{list_all}
use Rattle.xfs_naming.specs.Naming.{has_target, has_type}
use Rattle.xfs_naming.proofs.directories.have_targets.Given as goal

abbrev pub invariant-loop-entry : goal.invariant-loop-entry
invariant-loop-entry l =
    (list_all (has_target l.names.root l.names.files.now) (take l.entry-index l.own) ≡ true)
    × (l.right ≡ list_all (has_type l.names.files.now) (take l.entry-index l.own))
