use Rattle.xfs_volume_tests.proofs.dirs.read.Given as goal

abbrev pub ghosts-read_counted : goal.ghosts-read_counted
ghosts-read_counted g a = record { name = a.blank.name; parts = a.blank.parts }
