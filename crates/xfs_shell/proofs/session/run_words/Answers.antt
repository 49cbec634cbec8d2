use Rattle.xfs_geom.specs.Volumes.{volume_of}
use Rattle.xfs_commands.specs.Commands.{session_of}
use Rattle.xfs_shell.specs.Running.{block_at_place}
use Rattle.xfs_shell.proofs.Pushing.{attempts_placeless}
use Rattle.xfs_shell.proofs.session.run_words.Goals as goal

pub returns-in-None-clause-outcome : goal.returns-in-None-clause-outcome
returns-in-None-clause-outcome g c =
    λ image told.
    rw (attempts_placeless (volume_of c.args.geometry.now) c.args.leave c.args.words.now (block_at_place image c.args.cursor.now.at) (session_of c.args.cursor.now) c.in-None.is)
    (c.run_placeless.ensures.outcome image told)

pub returns-in-None-clause-passes : goal.returns-in-None-clause-passes
returns-in-None-clause-passes g c =
    λ image told.
    rw (attempts_placeless (volume_of c.args.geometry.now) c.args.leave c.args.words.now (block_at_place image c.args.cursor.now.at) (session_of c.args.cursor.now) c.in-None.is)
    (c.run_placeless.ensures.passes image told)
