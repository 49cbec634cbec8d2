use Rattle.std.proofs.Common.{◌≡◌, Bool, if◌then◌else◌, IfOk, sym, ap, subst, ◌∙◌}
use Rattle.std.specs.Option.{option_copied}
use Rattle.xfs_geom.specs.Volumes.{volume_of}
use Rattle.xfs_inode.specs.Files.{attr_fork, with_attrs}
use Rattle.xfs_inode.specs.declared.files.FileRead.TheVariants as Reads
use Rattle.xfs_inode.proofs.deciding.with_held.Goals as goal

pub is_whole_fork-requires : goal.is_whole_fork-requires
is_whole_fork-requires c = record { slot = c.requires.slot; link = c.requires.link }

pub returns-in-Err : goal.returns-in-Err
returns-in-Err c = tt

pub returns-then-not-whole : goal.returns-then-not-whole
returns-then-not-whole c =
    let a = c.args in
    let v = volume_of a.g.now in
    ap (λ (t : Bool). if t then with_attrs v a.ino a.core.now a.slot.now (option_copied a.link) a.held (attr_fork v a.ino a.core.now a.slot.now (option_copied a.attr_leaf)) else Reads.Unsound)
    (sym c.if-not-whole.true ∙ c.in-Ok.ensures.value)

pub with_attr_fork-requires : goal.with_attr_fork-requires
with_attr_fork-requires c = record {
  slot = c.requires.slot;
  forkoff = c.requires.forkoff;
  fits = c.requires.fits;
  short = c.in-Ok.ensures.short c.if-not-whole.false;
  placed = c.in-Ok.ensures.placed c.if-not-whole.false;
  attr_leaf = c.requires.attr_leaf;
  link = c.requires.link;
}

pub returns : goal.returns
returns c =
    let a = c.args in
    let v = volume_of a.g.now in
    subst (λ (t : Bool). IfOk c.with_attr_fork.result (λ read. read
    ≡ (if t then with_attrs v a.ino a.core.now a.slot.now (option_copied a.link) a.held (attr_fork v a.ino a.core.now a.slot.now (option_copied a.attr_leaf)) else Reads.Unsound)))
    (sym c.if-not-whole.false ∙ c.in-Ok.ensures.value) c.with_attr_fork.ensures
