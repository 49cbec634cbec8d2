use Rattle.xfs_restored.proofs.Standing.{holds, others_stay, same_size, stands}
use Rattle.xfs_restored.proofs.rewritten_images.rebuilt_images_hold_the_plan.Goals as goal

pub returns-clause-held : goal.returns-clause-held
returns-clause-held c = holds

pub returns-clause-others : goal.returns-clause-others
returns-clause-others c = others_stay

pub returns-clause-size : goal.returns-clause-size
returns-clause-size c = same_size

pub returns-clause-stands : goal.returns-clause-stands
returns-clause-stands c = stands
