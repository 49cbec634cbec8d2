use Rattle.std.proofs.Common.{ℕ, List, ◌++◌, ap, ◌∙◌}
use Rattle.xfs_groups.specs.declared.groups.GroupTrees.{GroupTrees}
use Rattle.xfs_rebuild.proofs.Listed.{listed_end, listed_from}
use Rattle.xfs_rebuild.proofs.found.reserved_of.Goals as goal

pub loop-group-preserved : goal.loop-group-preserved
loop-group-preserved c =
    let done = c.loop-group.blocks.items in
    listed_from (λ (t : GroupTrees). t.reserved) c.args.trees.now c.loop-group.group-index c.group-item.result done c.extend_from_slice.new.self.items _ c.loop-group-test.true c.group-item.is
    (c.in_ok-extend_from_slice.ensures.items ∙ ap (λ (ns : List ℕ). done ++ ns) c.as_slice.ensures) c.loop-group.invariant

pub returns : goal.returns
returns c =
    c.from_vec.ensures
    ∙ listed_end (λ (t : GroupTrees). t.reserved) c.args.trees.now c.loop-group.group-index c.loop-group.blocks.items _ c.loop-group-test.false c.loop-group.invariant
