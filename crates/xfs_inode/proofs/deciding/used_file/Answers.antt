use Rattle.std.proofs.Common.{◌≡◌, ℕ, Bool, ◌&&◌, if◌then◌else◌, List, Option, Some, None, option_map, IfOk, sym, ap, subst, ◌∙◌}
use Rattle.std.specs.Option.{option_copied}
use Rattle.xfs_word.specs.declared.extents.Extent.{Extent}
use Rattle.xfs_geom.specs.Volumes.{volume_of}
use Rattle.xfs_tree.specs.Reading.{Contents}
use Rattle.xfs_inode.specs.Files.{contents_of, feature_of, with_feature}
use Rattle.xfs_inode.specs.declared.files.FileRead.TheVariants as Reads
use Rattle.xfs_inode.specs.Private.Steps.{by_core}
use Rattle.xfs_inode.proofs.deciding.used_file.Goals as goal

pub returns-in-Some : goal.returns-in-Some
returns-in-Some c =
    let a = c.args in
    let v = volume_of a.g.now in
    let leaf = option_copied a.attr_leaf in
    ap (λ (f : Option ℕ). with_feature f (by_core v a.ino a.core.now a.slot.now (option_map contents_of (option_copied a.tree)) leaf (option_copied a.link)))
    (sym c.in-Some.is ∙ c.in_ok-what.ensures ∙ ap (λ (p : Option ℕ). feature_of v a.ino p leaf) c.attr_place-place.ensures.value)

pub returns-in-None : goal.returns-in-None
returns-in-None c =
    let a = c.args in
    let v = volume_of a.g.now in
    let leaf = option_copied a.attr_leaf in
    subst (λ (f : Option ℕ). IfOk c.by_core.result (λ read. read ≡ with_feature f (by_core v a.ino a.core.now a.slot.now (option_map contents_of (option_copied a.tree)) leaf (option_copied a.link))))
    (sym c.in-None.is ∙ c.in_ok-what.ensures ∙ ap (λ (p : Option ℕ). feature_of v a.ino p leaf) c.attr_place-place.ensures.value) c.by_core.ensures
