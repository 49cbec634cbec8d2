use Rattle.std.proofs.Common.{◌≡◌, ◌++◌, drop, map}
use Rattle.std.specs.List.{All}
use Rattle.xfs_names.specs.declared.building.BuiltDirectory.{BuiltDirectory}
use Rattle.xfs_names.specs.Built.{IsBuiltAsWanted}
use Rattle.xfs_names.proofs.building.build_all.Given as goal

abbrev pub invariant-loop-dir : goal.invariant-loop-dir
invariant-loop-dir l = (map (λ (b : BuiltDirectory). b.ino) l.built.items ++ drop l.dir-index l.rebuilt ≡ l.rebuilt) × All (IsBuiltAsWanted l.wanted l.rooms) l.built.items
