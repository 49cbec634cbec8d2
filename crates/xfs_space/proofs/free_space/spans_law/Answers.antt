use Rattle.xfs_space.proofs.FreeLaws.{spans_broken, spans_kept}
use Rattle.xfs_space.proofs.free_space.spans_law.Goals as goal

pub returns-then-found : goal.returns-then-found
returns-then-found c = spans_kept c.args.place c.args.held.now c.args.due.now c.first_difference-found.result c.first_difference-found.ensures c.if-found.true

pub returns : goal.returns
returns c = spans_broken c.args.place c.args.held.now c.args.due.now c.first_difference-found.result c.first_difference-found.ensures c.if-found.false
