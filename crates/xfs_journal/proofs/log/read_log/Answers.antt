use Rattle.std.proofs.Common.{List, ◌*◌, ap, ◌∙◌}
use Rattle.xfs_log.specs.Log.{all_sectors, state_of}
use Rattle.xfs_log.specs.declared.sectors.SectorSeen.{SectorSeen}
use Rattle.xfs_image.specs.View.{log_of}
use Rattle.xfs_journal.proofs.LogSeen.{sectors_are}
use Rattle.xfs_journal.proofs.log.read_log.Goals as goal

pub see_log-requires : goal.see_log-requires
see_log-requires g c = record { inside = c.requires.inside }

pub returns-in-Ok-clause-state : goal.returns-in-Ok-clause-state
unfolding log_of
returns-in-Ok-clause-state g c =
    λ image told.
    c.log_state.ensures.state
    ∙ ap (λ (xs : List SectorSeen). state_of (all_sectors xs (8 * c.args.g.now.logblocks))) c.deref.ensures.value
    ∙ ap state_of (sectors_are c.in-Ok.log (8 * c.args.g.now.logblocks) c.in-Ok.ensures.count ∙ c.in-Ok.ensures.seen image told)

pub returns-in-Ok-clause-cause : goal.returns-in-Ok-clause-cause
returns-in-Ok-clause-cause g c = c.in-Ok.ensures.cause

pub returns-in-Ok-clause-disk : goal.returns-in-Ok-clause-disk
returns-in-Ok-clause-disk g c = c.see_log.ensures.disk

pub returns-in-Ok-clause-reads : goal.returns-in-Ok-clause-reads
returns-in-Ok-clause-reads g c = c.see_log.ensures.reads

pub returns-in-Err-clause-state : goal.returns-in-Err-clause-state
returns-in-Err-clause-state g c = tt

pub returns-in-Err-clause-cause : goal.returns-in-Err-clause-cause
returns-in-Err-clause-cause g c = c.in-Err.ensures.cause

pub returns-in-Err-clause-disk : goal.returns-in-Err-clause-disk
returns-in-Err-clause-disk g c = c.see_log.ensures.disk

pub returns-in-Err-clause-reads : goal.returns-in-Err-clause-reads
returns-in-Err-clause-reads g c = c.see_log.ensures.reads
