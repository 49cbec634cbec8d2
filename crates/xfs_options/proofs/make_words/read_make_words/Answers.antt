use Rattle.xfs_options.proofs.MakeLines.{item_first, make_first}
use Rattle.xfs_options.proofs.make_words.read_make_words.Goals as goal

pub returns-clause-offending : goal.returns-clause-offending
returns-clause-offending c = λ n refusal. make_first c.args.rest.now n (rw refusal at c.read_line.ensures.refusal)

pub returns-clause-bad_item : goal.returns-clause-bad_item
returns-clause-bad_item c = λ word item refusal. item_first c.args.rest.now word item (rw refusal at c.read_line.ensures.refusal)
