use Rattle.xfs_restored.proofs.Keeping.{file_kept}
use Rattle.xfs_restored.proofs.Sizes.{elected_fits}
use Rattle.xfs_restored.proofs.safety.restored_volumes_keep_protected_files.Goals as goal

pub returns : goal.returns
returns c = λ g sector s image now e r told elected is new ino safe. file_kept g sector s image now e r told is (record { enough = elected_fits g image elected; is = new }) ino safe
