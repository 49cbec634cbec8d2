use Rattle.xfs_format_tests.proofs.kinds.hostile.keys_of_owners.Given as goal

abbrev pub ghosts-reading : goal.ghosts-reading
ghosts-reading g a = record { name = a.blank.name; parts = a.blank.parts }
