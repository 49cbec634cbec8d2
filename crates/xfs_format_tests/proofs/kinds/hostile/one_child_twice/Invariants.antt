use Rattle.xfs_format_tests.proofs.kinds.hostile.one_child_twice.Given as goal

abbrev pub ghosts-reading : goal.ghosts-reading
ghosts-reading g a = record { name = a.blank.name; parts = a.blank.parts }
