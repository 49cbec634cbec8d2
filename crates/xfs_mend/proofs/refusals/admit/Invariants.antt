use Rattle.xfs_mend.proofs.refusals.admit.Given as goal

abbrev pub ghosts-admit_counted : goal.ghosts-admit_counted
ghosts-admit_counted g a = record { name = a.blank.name; parts = a.blank.parts }
