use Rattle.std.proofs.Common.{◌≡◌, Option, IfOk, subst}
use Rattle.std.specs.Option.{option_copied}
use Rattle.xfs_geom.specs.Volumes.{volume_of}
use Rattle.xfs_inode.specs.Files.{AttrFork, with_attrs}
use Rattle.xfs_inode.proofs.deciding.with_attr_fork.Goals as goal

pub attr_fork-requires : goal.attr_fork-requires
attr_fork-requires c = record { slot = c.requires.slot; forkoff = c.requires.forkoff; attr_leaf = c.requires.attr_leaf }

pub with_attrs-requires : goal.with_attrs-requires
with_attrs-requires c = record { slot = c.requires.slot; link = c.requires.link; fits = c.requires.fits; short = c.requires.short; placed = c.requires.placed }

pub returns-in-Ok : goal.returns-in-Ok
returns-in-Ok c =
    let a = c.args in
    subst (λ (f : Option AttrFork). IfOk c.with_attrs.result (λ read. read ≡ with_attrs (volume_of a.g.now) a.ino a.core.now a.slot.now (option_copied a.link) a.held f)) c.in-Ok.ensures c.with_attrs.ensures

pub returns-in-Err : goal.returns-in-Err
returns-in-Err c = tt
