use Rattle.xfs_options.proofs.DebugLines.{debug_first}
use Rattle.xfs_options.proofs.debug_words.read_debug_words.Goals as goal

pub returns-clause-offending : goal.returns-clause-offending
returns-clause-offending c = λ n refusal. debug_first c.args.rest.now n (rw refusal at c.read_line.ensures.refusal)
