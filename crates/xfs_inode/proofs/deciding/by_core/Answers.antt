use Rattle.std.proofs.Common.{◌≡◌, ℕ, Bool, ◌&&◌, if◌then◌else◌, List, Option, Some, None, option_map, IfOk, sym, ap, subst, ◌∙◌}
use Rattle.std.specs.Option.{option_copied}
use Rattle.xfs_word.specs.declared.extents.Extent.{Extent}
use Rattle.xfs_geom.specs.Volumes.{volume_of}
use Rattle.xfs_tree.specs.Reading.{Contents}
use Rattle.xfs_inode.specs.Files.{contents_of, data_fork, with_data}
use Rattle.xfs_inode.specs.declared.files.FileRead.TheVariants as Reads
use Rattle.xfs_inode.proofs.deciding.by_core.Goals as goal

pub returns-then-not-is_core : goal.returns-then-not-is_core
returns-then-not-is_core c =
    let a = c.args in
    ap (λ (t : Bool). if t then with_data (volume_of a.g.now) a.ino a.core.now a.slot.now (option_copied a.attr_leaf) (option_copied a.link) (data_fork a.core.now a.slot.now (option_map contents_of (option_copied a.tree))) else Reads.Unsound)
    (sym c.if-not-is_core.true ∙ c.is_core.ensures.value)

pub data_fork-requires-clause-forkoff : goal.data_fork-requires-clause-forkoff
data_fork-requires-clause-forkoff c = c.is_core.ensures.forkoff c.if-not-is_core.false

pub with_data-requires-clause-forkoff : goal.with_data-requires-clause-forkoff
with_data-requires-clause-forkoff c = c.is_core.ensures.forkoff c.if-not-is_core.false

pub with_data-requires-clause-fits : goal.with_data-requires-clause-fits
with_data-requires-clause-fits c = c.is_core.ensures.fits c.if-not-is_core.false

pub returns : goal.returns
returns c =
    let a = c.args in
    let v = volume_of a.g.now in
    let leaf = option_copied a.attr_leaf in
    let link = option_copied a.link in
    subst (λ (t : Bool). IfOk c.with_data.result (λ read. read
    ≡ (if t then with_data v a.ino a.core.now a.slot.now leaf link (data_fork a.core.now a.slot.now (option_map contents_of (option_copied a.tree))) else Reads.Unsound)))
    (sym c.if-not-is_core.false ∙ c.is_core.ensures.value)
    (subst (λ (h : Option (Contents Extent)). IfOk c.with_data.result (λ read. read ≡ with_data v a.ino a.core.now a.slot.now leaf link h)) c.in_ok-held.ensures c.with_data.ensures)
