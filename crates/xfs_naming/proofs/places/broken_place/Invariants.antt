use Rattle.std.proofs.Common.{◌≡◌, map, drop}
use Rattle.xfs_volume.specs.Laws.{first_broken}
use Rattle.xfs_naming.specs.Naming.{place_law}
use Rattle.xfs_naming.proofs.places.broken_place.Given as goal

abbrev pub invariant-loop-ino : goal.invariant-loop-ino
invariant-loop-ino l =
    first_broken (map (place_law l.names.root l.names.files.now l.names.entries.now l.names.dirs.now) (drop l.ino-index l.numbers))
    ≡ first_broken (map (place_law l.names.root l.names.files.now l.names.entries.now l.names.dirs.now) l.numbers)
