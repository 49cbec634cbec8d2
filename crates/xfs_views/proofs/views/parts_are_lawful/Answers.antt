use Rattle.xfs_views.proofs.Files.{file_is}
use Rattle.xfs_views.proofs.Groups.{group_is}
use Rattle.xfs_views.proofs.Numbers.{slots_ascend}
use Rattle.xfs_views.proofs.views.parts_are_lawful.Goals as goal

pub returns-clause-group : goal.returns-clause-group
returns-clause-group c = group_is

pub returns-clause-file : goal.returns-clause-file
returns-clause-file c = file_is

pub returns-clause-inodes : goal.returns-clause-inodes
returns-clause-inodes c = slots_ascend
