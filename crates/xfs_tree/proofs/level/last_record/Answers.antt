use Rattle.std.proofs.Common.{rules, Some, ◌-◌, ap, sym, ◌∙◌}
use Rattle.xfs_tree.specs.Blocks.{count_of, record_at}
use Rattle.xfs_tree.proofs.Rest.{last_each}
use Rattle.xfs_tree.proofs.level.last_record.Goals as goal

pub returns-else-count-eq0 : goal.returns-else-count-eq0
returns-else-count-eq0 g c =
    let s = g.K.Kind.shape c.args.kind.now in
    ap Some c.record_at.ensures
    ∙ sym (last_each c.args.before (count_of c.args.block.now) (c.count_of-count.result - 1) (record_at s c.args.block.now) (search rules))
