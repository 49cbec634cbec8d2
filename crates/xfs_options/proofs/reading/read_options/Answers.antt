use Rattle.xfs_options.proofs.Offending.{refusal_first}
use Rattle.xfs_options.proofs.reading.read_options.Goals as goal

pub returns-clause-offending : goal.returns-clause-offending
returns-clause-offending c =
    λ n have refusal. refusal_first c.args.rows.now c.args.rest.now n have (rw refusal at c.read_given.ensures.refusal)
