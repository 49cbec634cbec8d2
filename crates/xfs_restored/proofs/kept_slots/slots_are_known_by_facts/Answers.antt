use Rattle.xfs_image.specs.Claims.{candidate_inodes}
use Rattle.xfs_views.proofs.Members.{contained}
use Rattle.xfs_restored.proofs.KnownSlots.{known}
use Rattle.xfs_restored.proofs.kept_slots.slots_are_known_by_facts.Goals as goal

pub returns : goal.returns
returns c = λ v image ino is. known v image ino (contained ino (candidate_inodes v image) is)
