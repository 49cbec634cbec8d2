use Rattle.std.proofs.Common.{◌<◌, ◌≤◌, length, sym, ap, ◌∙◌, arith}
use Rattle.xfs_log.specs.Log.{is_cleared}
use Rattle.xfs_log.proofs.Zeros.{all_listed, long_listed, not_cleared}
use Rattle.xfs_log.proofs.state.is_cleared.Goals as goal

pub returns-then-seen-sectors : goal.returns-then-seen-sectors
returns-then-seen-sectors c =
    let seen = c.args.seen.now in
    let more : length seen < c.args.sectors = grind (arith, c.requires.whole, c.if-seen-sectors.true) in
    sym (not_cleared seen c.args.sectors c.args.cycle c.args.head (long_listed (length seen) c.args.sectors c.requires.listed c.if-seen-sectors.true) more)

pub returns : goal.returns
returns c = c.are_cleared.ensures ∙ ap (λ xs. is_cleared xs c.args.cycle c.args.head) (sym (all_listed c.args.seen.now c.args.sectors c.if-seen-sectors.false))
