use lib.Pointwise.{bytes_decides}
use Rattle.std.proofs.Common.{sym, ◌∙◌}
use Rattle.xfs_groups.proofs.Naming.{same_itself}
use Rattle.xfs_groups.proofs.named.same_clusters.Goals as goal

pub returns-then-eq : goal.returns-then-eq
returns-then-eq c = same_itself c.args.xs.now c.args.ys.now ((bytes_decides c.args.xs.now c.args.ys.now).0 (sym c.eq.ensures ∙ c.if-eq.true))
