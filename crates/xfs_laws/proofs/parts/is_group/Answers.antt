use Rattle.std.proofs.Common.{List, None, length, sym, ap, ◌∙◌, subst, not-le_of_lt}
use Rattle.std.specs.List.{All}
use Rattle.xfs_geom.specs.Volumes.{volume_of}
use Rattle.xfs_tree.specs.Rules.{are_lawful}
use Rattle.xfs_kinds.specs.FreeTrees.{bno_shape, cnt_shape}
use Rattle.xfs_kinds.specs.InodeTrees.{ino_shape, fino_shape}
use Rattle.xfs_kinds.specs.OwnerTrees.{rmap_shape}
use Rattle.xfs_space.specs.Parts.{AreOfGroup}
use Rattle.xfs_volume.specs.declared.groups.TreeBlocks.{TreeBlocks}
use Rattle.xfs_laws.proofs.Tests.{fails, last, refused}
use Rattle.xfs_laws.proofs.parts.is_group.Goals as goal

pub has_blocks-requires-clause-group : goal.has_blocks-requires-clause-group
has_blocks-requires-clause-group c = c.requires

pub has_blocks-requires-clause-count : goal.has_blocks-requires-clause-count
has_blocks-requires-clause-count c = c.if-group-gt-ENTRIES.false

pub returns-then-group-gt-ENTRIES : goal.returns-then-group-gt-ENTRIES
returns-then-group-gt-ENTRIES c = refused (λ w. not-le_of_lt c.if-group-gt-ENTRIES.true w.count)

pub returns-then-not-has_blocks : goal.returns-then-not-has_blocks
returns-then-not-has_blocks c = fails c.has_blocks.ensures c.if-not-has_blocks.true (λ w. w.listed)

pub returns-then-not-are_lawful : goal.returns-then-not-are_lawful
returns-then-not-are_lawful c =
    fails (c.are_lawful.ensures ∙ ap (are_lawful (bno_shape c.args.ag) (volume_of c.args.g.now) None) c.as_slice.ensures) c.if-not-are_lawful.true (λ w. w.bno)

pub returns-then-not-are_lawful-2 : goal.returns-then-not-are_lawful-2
returns-then-not-are_lawful-2 c =
    fails (c.are_lawful-2.ensures ∙ ap (are_lawful (cnt_shape c.args.ag) (volume_of c.args.g.now) None) c.as_slice-2.ensures) c.if-not-are_lawful-2.true (λ w. w.cnt)

pub returns-then-not-are_lawful-3 : goal.returns-then-not-are_lawful-3
returns-then-not-are_lawful-3 c =
    fails (c.are_lawful-3.ensures ∙ ap (are_lawful (ino_shape c.args.ag) (volume_of c.args.g.now) None) c.as_slice-3.ensures) c.if-not-are_lawful-3.true (λ w. w.ino)

pub returns-then-not-are_lawful-4 : goal.returns-then-not-are_lawful-4
returns-then-not-are_lawful-4 c =
    fails (c.are_lawful-4.ensures ∙ ap (are_lawful (fino_shape c.args.ag) (volume_of c.args.g.now) None) c.as_slice-4.ensures) c.if-not-are_lawful-4.true (λ w. w.fino)

pub returns-then-not-are_lawful-5 : goal.returns-then-not-are_lawful-5
returns-then-not-are_lawful-5 c =
    fails (c.are_lawful-5.ensures ∙ ap (are_lawful (rmap_shape c.args.ag) (volume_of c.args.g.now) None) c.as_slice-5.ensures) c.if-not-are_lawful-5.true (λ w. w.rmap)

pub returns-then-as_slice-ne-TREES : goal.returns-then-as_slice-ne-TREES
returns-then-as_slice-ne-TREES c = refused (λ w. c.if-as_slice-ne-TREES.true (ap length c.as_slice-6.ensures ∙ w.trees))

pub returns : goal.returns
returns c =
    let v = volume_of c.args.g.now in
    let ag = c.args.ag in
    let P = λ (trees : List TreeBlocks). All (λ (tree : TreeBlocks). AreOfGroup v ag tree.blocks) trees in
    last c.are_trees.ensures
    (λ trees. record {
      count = c.if-group-gt-ENTRIES.false;
      listed = sym c.has_blocks.ensures ∙ c.if-not-has_blocks.false;
      bno = sym (c.are_lawful.ensures ∙ ap (are_lawful (bno_shape ag) v None) c.as_slice.ensures) ∙ c.if-not-are_lawful.false;
      cnt = sym (c.are_lawful-2.ensures ∙ ap (are_lawful (cnt_shape ag) v None) c.as_slice-2.ensures) ∙ c.if-not-are_lawful-2.false;
      ino = sym (c.are_lawful-3.ensures ∙ ap (are_lawful (ino_shape ag) v None) c.as_slice-3.ensures) ∙ c.if-not-are_lawful-3.false;
      fino = sym (c.are_lawful-4.ensures ∙ ap (are_lawful (fino_shape ag) v None) c.as_slice-4.ensures) ∙ c.if-not-are_lawful-4.false;
      rmap = sym (c.are_lawful-5.ensures ∙ ap (are_lawful (rmap_shape ag) v None) c.as_slice-5.ensures) ∙ c.if-not-are_lawful-5.false;
      trees = sym (ap length c.as_slice-6.ensures) ∙ c.if-as_slice-ne-TREES.false;
      blocks = subst P c.as_slice-7.ensures trees;
    })
    (λ w. subst P (sym c.as_slice-7.ensures) w.blocks)
