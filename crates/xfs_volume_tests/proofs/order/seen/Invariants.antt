use Rattle.xfs_volume_tests.proofs.order.seen.Given as goal

abbrev pub ghosts-see : goal.ghosts-see
ghosts-see g a = record { name = a.blank.name; parts = a.blank.parts }
