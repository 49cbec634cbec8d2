use Rattle.xfs_volume_tests.proofs.scan.pieces_run_at_once.Given as goal

abbrev pub ghosts-gather_counted : goal.ghosts-gather_counted
ghosts-gather_counted g a = record { name = a.blank.name; parts = a.blank.parts }
