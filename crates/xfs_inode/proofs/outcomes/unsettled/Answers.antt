use Rattle.std.proofs.Common.{◌≡◌, Bool, IfOk, sym, ap, subst}
use Rattle.std.specs.Option.{option_copied}
use Rattle.xfs_inode.specs.Private.Steps.{without_leaf}
use Rattle.xfs_inode.proofs.outcomes.unsettled.Goals as goal

pub without_attrs-requires : goal.without_attrs-requires
without_attrs-requires c = record { slot = c.requires.slot; link = c.requires.link; fits = c.requires.fits; short = c.requires.short }

pub returns-then-leaf : goal.returns-then-leaf
returns-then-leaf c =
    let a = c.args in
    subst (λ (t : Bool). IfOk c.without_attrs.result (λ read. read ≡ without_leaf a.ino a.core.now a.slot.now (option_copied a.link) a.held t)) (sym c.if-leaf.true) c.without_attrs.ensures

pub returns : goal.returns
returns c =
    let a = c.args in
    ap (without_leaf a.ino a.core.now a.slot.now (option_copied a.link) a.held) (sym c.if-leaf.false)
