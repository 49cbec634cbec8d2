use Rattle.xfs_format_tests.proofs.runs.runs_in_turn.Given as goal

abbrev pub ghosts-try_all : goal.ghosts-try_all
ghosts-try_all g a = record { name = a.blank.name; parts = a.blank.parts }
