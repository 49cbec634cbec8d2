use Rattle.std.proofs.Common.{◌≡◌, ◌++◌, drop, map}
use Rattle.std.specs.List.{filter}
use Rattle.xfs_built.specs.Asks.{object_of, stands_in_blocks}
use Rattle.xfs_changes.proofs.objects.objects_of.Given as goal

abbrev pub invariant-loop-directory : goal.invariant-loop-directory
invariant-loop-directory l =
    l.objects.items ++ map (object_of l.rooms) (filter stands_in_blocks (drop l.directory-index l.built)) ≡ map (object_of l.rooms) (filter stands_in_blocks l.built)
