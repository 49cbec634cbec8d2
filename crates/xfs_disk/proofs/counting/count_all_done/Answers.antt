use Rattle.std.proofs.Common.{◌≡◌, ◌<◌, sym, ◌∙◌, rules}
use Rattle.xfs_disk.specs.Counts.{raised_times}
use Rattle.xfs_disk.proofs.Runs.{raised_all}
use Rattle.xfs_disk.proofs.counting.count_all_done.Goals as goal

pub returns-then-is_ok-clause-all : goal.returns-then-is_ok-clause-all
returns-then-is_ok-clause-all g c =
    let fits : c.args.done.now < 18446744073709551616 = search rules in
    let all : c.saturating_add.result ≡ raised_times c.args.blocks c.args.done.now = c.saturating_add.ensures ∙ sym (raised_all c.args.blocks c.args.done.now fits) in
    search rules
