use Rattle.std.proofs.Common.{ℕ, ◌<◌, List, None, sym, ap, ◌∙◌, subst}
use Rattle.std.specs.List.{All}
use Rattle.xfs_geom.specs.Volumes.{volume_of}
use Rattle.xfs_tree.specs.Rules.{are_lawful}
use Rattle.xfs_kinds.specs.FileTrees.{bmbt_shape}
use Rattle.xfs_laws.proofs.Tests.{fails, last}
use Rattle.xfs_laws.proofs.parts.is_file.Goals as goal

pub returns-then-not-are_lawful : goal.returns-then-not-are_lawful
returns-then-not-are_lawful c =
    fails (c.are_lawful.ensures ∙ ap (are_lawful (bmbt_shape c.args.file.now.ino) (volume_of c.args.g.now) None) c.as_slice.ensures)
    c.if-not-are_lawful.true (λ w. w.extents)

pub returns-then-not-are_lawful-2 : goal.returns-then-not-are_lawful-2
returns-then-not-are_lawful-2 c =
    fails (c.are_lawful-2.ensures ∙ ap (are_lawful (bmbt_shape c.args.file.now.ino) (volume_of c.args.g.now) None) c.attr_extents.ensures)
    c.if-not-are_lawful-2.true (λ w. w.attr_extents)

pub returns : goal.returns
returns c =
    let v = volume_of c.args.g.now in
    let s = bmbt_shape c.args.file.now.ino in
    let P = λ (blocks : List ℕ). All (λ block. block < c.args.g.now.dblocks) blocks in
    last c.are_of_volume.ensures
    (λ blocks. record {
      extents = sym (c.are_lawful.ensures ∙ ap (are_lawful s v None) c.as_slice.ensures) ∙ c.if-not-are_lawful.false;
      attr_extents = sym (c.are_lawful-2.ensures ∙ ap (are_lawful s v None) c.attr_extents.ensures) ∙ c.if-not-are_lawful-2.false;
      tree = subst P c.tree.ensures blocks;
    })
    (λ w. subst P (sym c.tree.ensures) w.tree)
