use Rattle.xfs_made.proofs.KeptTaken.{are_kept}
use Rattle.xfs_made.proofs.apart.kept_claims_are_apart.Goals as goal

pub returns : goal.returns
returns c = are_kept
