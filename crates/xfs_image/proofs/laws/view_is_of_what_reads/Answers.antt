use Rattle.xfs_image.proofs.PartsFound.{part_of}
use Rattle.xfs_image.proofs.GroupReads.{all_have_parts}
use Rattle.xfs_image.proofs.Views.{files_read_so, view_of}
use Rattle.xfs_image.proofs.laws.view_is_of_what_reads.Goals as goal

pub returns-clause-view : goal.returns-clause-view
returns-clause-view c = view_of

pub returns-clause-part : goal.returns-clause-part
returns-clause-part c = part_of

pub returns-clause-groups : goal.returns-clause-groups
returns-clause-groups c = all_have_parts

pub returns-clause-files : goal.returns-clause-files
returns-clause-files c = files_read_so
