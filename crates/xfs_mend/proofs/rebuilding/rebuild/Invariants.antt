use Rattle.xfs_mend.proofs.rebuilding.rebuild.Given as goal

abbrev pub ghosts-rebuild_counted : goal.ghosts-rebuild_counted
ghosts-rebuild_counted g a = record { name = a.blank.name; parts = a.blank.parts }
