use Rattle.xfs_made.proofs.Candidates.{image_can}
use Rattle.xfs_made.proofs.gathered.candidates_can_be_kept.Goals as goal

pub returns : goal.returns
returns c = image_can
