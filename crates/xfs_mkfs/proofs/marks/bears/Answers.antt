use Rattle.xfs_mkfs.specs.Marks.{bears, marks}
use Rattle.xfs_mkfs.proofs.marks.bears.Goals as goal

pub returns : goal.returns
unfolding bears marks
returns c = c.bears_one.ensures
