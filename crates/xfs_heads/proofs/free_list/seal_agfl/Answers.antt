use Rattle.std.proofs.Common.{lit≤, inr}
use Rattle.xfs_heads.proofs.Kept.{numbers_kept}
use Rattle.xfs_heads.proofs.free_list.seal_agfl.Goals as goal

pub returns-clause-entries : goal.returns-clause-entries
returns-clause-entries c = numbers_kept c.args.sector.now c.seal_head.new.sector 32 4 36 119 c.seal_head.ensures.keeps (inr (lit≤ tt))
