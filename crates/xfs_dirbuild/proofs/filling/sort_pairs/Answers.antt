use Rattle.xfs_dirindex.proofs.Compared.{ranked_from_sort}
use Rattle.xfs_dirbuild.proofs.filling.sort_pairs.Goals as goal

pub returns-clause-ranked : goal.returns-clause-ranked
returns-clause-ranked c = ranked_from_sort c.sort.new.self.items c.in_ok-sort.ensures.sorted
