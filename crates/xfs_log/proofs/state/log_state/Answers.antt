use Rattle.std.proofs.Common.{sym, ap, ◌∙◌}
use Rattle.xfs_log.specs.Log.{all_sectors, state_of}
use Rattle.xfs_log.proofs.BlankIsClean.{blank_is_clean}
use Rattle.xfs_log.proofs.Alone.{alone}
use Rattle.xfs_log.proofs.CleanLog.{has_head, of_head}
use Rattle.xfs_log.proofs.state.log_state.Goals as goal

pub returns-clause-clean : goal.returns-clause-clean
returns-clause-clean c =
    λ head. (λ is. has_head (all_sectors c.args.seen.now c.args.sectors) head (sym c.find_state.ensures ∙ is), λ h. c.find_state.ensures ∙ of_head (all_sectors c.args.seen.now c.args.sectors) head h)

pub returns-clause-alone : goal.returns-clause-alone
returns-clause-alone c = alone (all_sectors c.args.seen.now c.args.sectors)

pub returns-clause-blank : goal.returns-clause-blank
returns-clause-blank c =
    λ cycle count later low long is. c.find_state.ensures ∙ (ap state_of is ∙ blank_is_clean cycle count later low long)
