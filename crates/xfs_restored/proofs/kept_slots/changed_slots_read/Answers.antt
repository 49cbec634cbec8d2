use Rattle.xfs_geom.specs.Volumes.{volume_of}
use Rattle.xfs_views.proofs.Members.{contained}
use Rattle.xfs_restored.specs.DueFiles.{kept_inodes}
use Rattle.xfs_restored.proofs.Others.{free_slot_reads, fresh_reads}
use Rattle.xfs_restored.proofs.RereadSlots.{kept_file_reads}
use Rattle.xfs_restored.proofs.kept_slots.changed_slots_read.Goals as goal

pub returns-clause-kept : goal.returns-clause-kept
returns-clause-kept c = λ g s image now kept seen f has is. kept_file_reads g s image now kept seen has f (contained f kept.files is)

pub returns-clause-fresh : goal.returns-clause-fresh
returns-clause-fresh c = λ g s image now kept seen ino has is. fresh_reads g s image now kept seen has ino (contained ino kept.fresh is)

pub returns-clause-free : goal.returns-clause-free
returns-clause-free c = λ g s image now kept seen ino has is unused old. free_slot_reads g s image now kept seen has ino (contained ino (kept_inodes (volume_of g) kept) is) unused old
