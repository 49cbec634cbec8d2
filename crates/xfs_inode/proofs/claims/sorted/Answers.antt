use Rattle.xfs_inode.proofs.Runs.{ranked_from_sort}
use Rattle.xfs_inode.proofs.claims.sorted.Goals as goal

pub returns-clause-ranked : goal.returns-clause-ranked
returns-clause-ranked c = ranked_from_sort c.sort.new.self.items c.in_ok-sort.ensures.sorted
