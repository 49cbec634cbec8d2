use Rattle.std.proofs.Common.{◌≡◌, lit≤, inl, rules}
use Rattle.xfs_heads.specs.Heads.{numbers}
use Rattle.xfs_heads.proofs.Kept.{numbers_kept}
use Rattle.xfs_heads.proofs.inodes.seal_agi.Goals as goal

pub returns-clause-stated : goal.returns-clause-stated
returns-clause-stated c =
    let kept : numbers c.seal_head.new.sector 40 64 ≡ numbers c.args.sector.now 40 64 =
    numbers_kept c.args.sector.now c.seal_head.new.sector 312 4 40 64 c.seal_head.ensures.keeps (inl (lit≤ tt)) in
    search rules
