use Rattle.std.proofs.Common.{◌≡◌, ℕ, Bool, List, Option, Some, None, IfOk, sym, ap, subst, ◌∙◌}
use Rattle.std.specs.Option.{option_copied}
use Rattle.xfs_geom.specs.Volumes.{volume_of}
use Rattle.xfs_inode.specs.Files.{AttrFork, with_attrs}
use Rattle.xfs_inode.proofs.outcomes.with_attrs.Goals as goal

pub without_attrs-requires : goal.without_attrs-requires
without_attrs-requires c = record { slot = c.requires.slot; link = c.requires.link; fits = c.requires.fits; short = c.requires.short }

pub with_fork-requires : goal.with_fork-requires
with_fork-requires c = record { slot = c.requires.slot; link = c.requires.link; fits = c.requires.fits; short = c.requires.short; placed = c.requires.placed }

pub returns-in-None : goal.returns-in-None
returns-in-None c =
    let a = c.args in
    subst (λ (f : Option AttrFork). IfOk c.without_attrs.result (λ read. read ≡ with_attrs (volume_of a.g.now) a.ino a.core.now a.slot.now (option_copied a.link) a.held f)) (sym c.in-None.is) c.without_attrs.ensures

pub returns-in-Some : goal.returns-in-Some
returns-in-Some c =
    let a = c.args in
    subst (λ (f : Option AttrFork). IfOk c.with_fork.result (λ read. read ≡ with_attrs (volume_of a.g.now) a.ino a.core.now a.slot.now (option_copied a.link) a.held f)) (sym c.in-Some.is) c.with_fork.ensures
