use Rattle.std.proofs.Common.{◌∙◌, sym, arith}
use Rattle.xfs_groups.proofs.Sweeps.{given_at, none_at}
use Rattle.xfs_groups.proofs.sweep.is_given_at.Goals as goal

pub returns-then-at-records : goal.returns-then-at-records
returns-then-at-records c = λ apart behind. sym (none_at c.args.block c.args.at c.args.records.now (omega arith))

pub returns : goal.returns
returns c = λ apart behind. c.begins_by.ensures ∙ given_at c.args.block c.args.at c.args.records.now _ (omega arith) apart behind
