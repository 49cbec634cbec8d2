use Rattle.xfs_attr.proofs.Spelled.{begins_with, reads_back}
use Rattle.xfs_attr.proofs.short_form.read_short_attributes.Goals as goal

pub returns-clause-spelled : goal.returns-clause-spelled
returns-clause-spelled c = λ attributes. (begins_with c.args.fork.now attributes, reads_back c.args.fork.now attributes)
