use Rattle.xfs_restored.proofs.Handed.{has_kept}
use Rattle.xfs_restored.proofs.Sizes.{elected_fits}
use Rattle.xfs_restored.proofs.images.rebuilt_images_have_what_is_kept.Goals as goal

pub returns-clause-size : goal.returns-clause-size
returns-clause-size c = elected_fits

pub returns-clause-kept : goal.returns-clause-kept
returns-clause-kept c = has_kept
