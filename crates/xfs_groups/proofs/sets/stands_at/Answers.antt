use Rattle.std.proofs.Common.{sym, arith}
use Rattle.xfs_groups.proofs.Along.{none_left, stands}
use Rattle.xfs_groups.proofs.sets.stands_at.Goals as goal

pub returns-then-at-blocks : goal.returns-then-at-blocks
returns-then-at-blocks c = λ up from. sym (none_left c.args.place c.args.at c.args.blocks.now (omega arith))

pub returns : goal.returns
returns c = λ up from. stands c.args.place c.args.at c.args.blocks.now _ (omega arith) up from
