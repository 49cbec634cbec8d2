use Rattle.std.proofs.Common.{◌≡◌, Bool, IfOk, sym, subst, ◌∙◌}
use Rattle.std.specs.Option.{option_copied}
use Rattle.xfs_inode.specs.Private.Steps.{by_counts, without_leaf}
use Rattle.xfs_inode.proofs.outcomes.by_counts.Goals as goal

pub whole_file-requires : goal.whole_file-requires
whole_file-requires c = record { slot = c.requires.slot; link = c.requires.link; fits = c.requires.fits; short = c.requires.short }

pub returns-then-settled : goal.returns-then-settled
returns-then-settled c =
    let a = c.args in
    subst (λ (t : Bool). IfOk c.whole_file.result (λ read. read ≡ by_counts a.ino a.core.now a.slot.now (option_copied a.link) a.held a.fork t)) (sym c.if-settled.true) c.whole_file.ensures

pub unsettled-requires : goal.unsettled-requires
unsettled-requires c = record { slot = c.requires.slot; link = c.requires.link; fits = c.requires.fits; short = c.requires.short }

pub returns : goal.returns
returns c =
    let a = c.args in
    subst (λ (t : Bool). IfOk c.unsettled.result (λ read. read ≡ by_counts a.ino a.core.now a.slot.now (option_copied a.link) a.held a.fork t)) (sym c.if-settled.false)
    (subst (λ (t : Bool). IfOk c.unsettled.result (λ read. read ≡ without_leaf a.ino a.core.now a.slot.now (option_copied a.link) a.held t)) c.has_leaf-leaf.ensures c.unsettled.ensures)
