use Rattle.xfs_volume_tests.proofs.claims.cases.small_cases.Given as goal

abbrev pub ghosts-try_cases : goal.ghosts-try_cases
ghosts-try_cases g a = record { name = a.blank.name; parts = a.blank.parts }
