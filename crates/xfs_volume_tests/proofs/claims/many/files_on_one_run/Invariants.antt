use Rattle.xfs_volume_tests.proofs.claims.many.files_on_one_run.Given as goal

abbrev pub ghosts-try_one_run : goal.ghosts-try_one_run
ghosts-try_one_run g a = record { name = a.blank.name; parts = a.blank.parts }
