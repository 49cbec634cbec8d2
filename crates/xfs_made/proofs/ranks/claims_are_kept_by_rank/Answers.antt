use Rattle.xfs_made.proofs.Different.{ranked_kept}
use Rattle.xfs_made.proofs.ranks.claims_are_kept_by_rank.Goals as goal

pub returns : goal.returns
returns c = ranked_kept
