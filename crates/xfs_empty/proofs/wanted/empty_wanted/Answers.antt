use Rattle.std.proofs.Common.{◌∙◌}
use Rattle.xfs_empty.proofs.Wants.{is_empty_wanted}
use Rattle.xfs_empty.proofs.wanted.empty_wanted.Goals as goal

pub returns : goal.returns
returns c =
    is_empty_wanted c.args.g.now c.from_vec.result c.from_vec-2.result c.from_vec-3.result c.from_vec-4.result c.from_vec-5.result c.from_vec-6.result
    (c.from_vec.ensures ∙ c.new.ensures.items) (c.from_vec-2.ensures ∙ c.in_ok-first.ensures.items) (c.from_vec-3.ensures ∙ c.new-2.ensures.items) (c.from_vec-4.ensures ∙ c.new-3.ensures.items)
    (c.from_vec-5.ensures ∙ c.new-4.ensures.items) (c.from_vec-6.ensures ∙ c.in_ok-inodes.ensures)
