use Rattle.std.proofs.Common.{ℕ, ◌+◌, ◌%◌, ◌==◌, sym, ap, ◌∙◌}
use Rattle.xfs_log.proofs.Zeros.{ends_listed}
use Rattle.xfs_log.proofs.state.ends_at.Goals as goal

pub returns : goal.returns
returns c =
    ap (λ (k : ℕ). (c.args.start + k) % c.args.sectors == c.args.head % c.args.sectors) c.record_sectors.ensures.value
    ∙ sym (ends_listed c.args.seen.now c.args.sectors c.args.start c.args.head c.requires.whole)
