use Rattle.std.proofs.Common.{sym, subst, ◌∙◌, true≢false}
use Rattle.xfs_geom.specs.Volumes.{volume_of}
use Rattle.xfs_space.specs.Parts.{AreOfGroup}
use Rattle.xfs_volume.specs.declared.groups.TreeBlocks.{TreeBlocks}
use Rattle.xfs_laws.proofs.Tests.{all_pass, none_yet, one_fails, one_more}
use Rattle.xfs_laws.proofs.parts.are_trees.Goals as goal

pub loop-tree-init : goal.loop-tree-init
loop-tree-init c = none_yet (λ (tree : TreeBlocks). AreOfGroup (volume_of c.args.g.now) c.args.ag tree.blocks) c.args.trees.now

pub loop-tree-preserved : goal.loop-tree-preserved
loop-tree-preserved c =
    let P = AreOfGroup (volume_of c.args.g.now) c.args.ag in
    one_more (λ (tree : TreeBlocks). P tree.blocks) c.args.trees.now c.loop-tree.tree-index c.loop-tree.invariant c.tree-item.result
    c.loop-tree-test.true c.tree-item.is (subst P c.as_slice.ensures (c.are_of_group.ensures.0 c.if-not-are_of_group.false))

pub returns-then-not-are_of_group : goal.returns-then-not-are_of_group
returns-then-not-are_of_group c =
    let P = AreOfGroup (volume_of c.args.g.now) c.args.ag in
    one_fails (λ (tree : TreeBlocks). P tree.blocks) c.args.trees.now c.loop-tree.tree-index c.tree-item.result c.loop-tree-test.true c.tree-item.is
    (λ lies. true≢false (sym (c.are_of_group.ensures.1 (subst P (sym c.as_slice.ensures) lies)) ∙ c.if-not-are_of_group.true))

pub returns : goal.returns
returns c =
    all_pass (λ (tree : TreeBlocks). AreOfGroup (volume_of c.args.g.now) c.args.ag tree.blocks) c.args.trees.now c.loop-tree.tree-index
    c.loop-tree-test.false c.loop-tree.invariant
