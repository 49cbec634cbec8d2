use Rattle.xfs_volume_tests.proofs.journal.state_with.Given as goal

abbrev pub ghosts-state_of : goal.ghosts-state_of
ghosts-state_of g a = record { name = a.blank.name; parts = a.blank.parts }
