use Rattle.std.proofs.Common.{◌≡◌, ℕ, Bool, ◌&&◌, if◌then◌else◌, List, Option, Some, None, option_map, IfOk, sym, ap, subst, ◌∙◌}
use Rattle.std.specs.Option.{option_copied}
use Rattle.xfs_word.specs.declared.extents.Extent.{Extent}
use Rattle.xfs_geom.specs.Volumes.{volume_of}
use Rattle.xfs_tree.specs.Reading.{Contents}
use Rattle.xfs_inode.specs.Files.{with_data}
use Rattle.xfs_inode.specs.declared.files.FileRead.TheVariants as Reads
use Rattle.xfs_inode.proofs.deciding.with_data.Goals as goal

pub returns-in-Some : goal.returns-in-Some
returns-in-Some c =
    let a = c.args in
    subst (λ (h : Option (Contents Extent)). IfOk c.with_held.result (λ read. read ≡ with_data (volume_of a.g.now) a.ino a.core.now a.slot.now (option_copied a.attr_leaf) (option_copied a.link) h)) (sym c.in-Some.is) c.with_held.ensures

pub returns-in-None : goal.returns-in-None
returns-in-None c =
    let a = c.args in
    ap (with_data (volume_of a.g.now) a.ino a.core.now a.slot.now (option_copied a.attr_leaf) (option_copied a.link)) (sym c.in-None.is)
