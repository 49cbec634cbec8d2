use Rattle.xfs_volume_tests.proofs.request.small_requests.Given as goal

abbrev pub ghosts-try_all : goal.ghosts-try_all
ghosts-try_all g a = record { name = a.blank.name; parts = a.blank.parts }
