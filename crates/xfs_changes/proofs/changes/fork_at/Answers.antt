use Rattle.std.proofs.Common.{◌==◌, List, Some, ap, ◌∙◌}
use Rattle.std.specs.List.{filter, slice_get}
use Rattle.xfs_inodebuild.specs.declared.forks.ForkWanted.{ForkWanted}
use Rattle.xfs_changes.specs.declared.forks.DirectoryFork.{DirectoryFork}
use Rattle.xfs_changes.proofs.Firsts.{fork_first, fork_told}
use Rattle.xfs_changes.proofs.changes.fork_at.Goals as goal

pub returns-in_ok-copy_fork-in-Some : goal.returns-in_ok-copy_fork-in-Some
returns-in_ok-copy_fork-in-Some c = ap (λ (f : ForkWanted). Some f) c.in_ok-copy_fork-in-Some.ensures ∙ ap fork_told c.in-Some.ensures.value ∙ ap (λ (fs : List DirectoryFork). fork_told (slice_get fs 0)) c.records_by_number.ensures
    ∙ fork_first (filter (λ (f : DirectoryFork). f.ino == c.args.ino) c.args.forks.now)

pub returns-in-None : goal.returns-in-None
returns-in-None c = ap fork_told c.in-None.ensures.value ∙ ap (λ (fs : List DirectoryFork). fork_told (slice_get fs 0)) c.records_by_number.ensures ∙ fork_first (filter (λ (f : DirectoryFork). f.ino == c.args.ino) c.args.forks.now)
