use Rattle.std.proofs.Common.{◌≡◌, Bool, IfOk, subst}
use Rattle.std.specs.Option.{option_copied}
use Rattle.xfs_inode.specs.Private.Steps.{by_counts}
use Rattle.xfs_inode.proofs.outcomes.with_fork.Goals as goal

pub is_settled-requires : goal.is_settled-requires
is_settled-requires c = c.requires.placed

pub by_counts-requires : goal.by_counts-requires
by_counts-requires c = record { slot = c.requires.slot; link = c.requires.link; fits = c.requires.fits; short = c.requires.short }

pub returns-in-Ok : goal.returns-in-Ok
returns-in-Ok c =
    let a = c.args in
    subst (λ (t : Bool). IfOk c.by_counts.result (λ read. read ≡ by_counts a.ino a.core.now a.slot.now (option_copied a.link) a.held a.fork t)) c.in-Ok.ensures c.by_counts.ensures

pub returns-in-Err : goal.returns-in-Err
returns-in-Err c = tt
