use Rattle.std.proofs.Common.{Err, ap, sym, ◌∙◌}
use Rattle.xfs_groups.proofs.Lacking.{lacks}
use Rattle.xfs_groups.proofs.parts.group_with.Goals as goal

pub whole_group-requires : goal.whole_group-requires
whole_group-requires c = sym c.first_lacking-part.ensures ∙ c.if-part-ne0.false

pub returns-then-part-ne0 : goal.returns-then-part-ne0
returns-then-part-ne0 c = ap Err c.lacking.ensures ∙ lacks c.args.ag c.args.heads.now c.args.trees c.first_lacking-part.result c.first_lacking-part.ensures c.if-part-ne0.true

pub returns-in-Ok : goal.returns-in-Ok
returns-in-Ok c = c.in-Ok.ensures c.args.ag
