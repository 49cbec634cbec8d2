use Rattle.std.proofs.Common.{◌≡◌, map, drop}
use Rattle.xfs_volume.specs.Laws.{first_broken}
use Rattle.xfs_naming.specs.Naming.{links_at, file_at}
use Rattle.xfs_naming.proofs.counts.broken_links.Given as goal

abbrev pub invariant-loop-ino : goal.invariant-loop-ino
invariant-loop-ino l =
    first_broken (map (λ ino. links_at l.names.root l.names.files.now l.names.entries.now (file_at l.names.files.now ino) ino) (drop l.ino-index l.numbers))
    ≡ first_broken (map (λ ino. links_at l.names.root l.names.files.now l.names.entries.now (file_at l.names.files.now ino) ino) l.numbers)
