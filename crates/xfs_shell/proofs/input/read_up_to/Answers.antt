use Rattle.xfs_shell.proofs.input.read_up_to.Goals as goal

pub returns-in-Ok-None-clause-cause : goal.returns-in-Ok-None-clause-cause
returns-in-Ok-None-clause-cause g c = c.in-Ok-None.ensures.cause
