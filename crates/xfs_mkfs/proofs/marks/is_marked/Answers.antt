use Rattle.xfs_mkfs.proofs.Marking.{few_read, told_marked}
use Rattle.xfs_mkfs.proofs.marks.is_marked.Goals as goal

pub returns-clause-value : goal.returns-clause-value
returns-clause-value g c = told_marked c.look_at.result (g.D.Disk.holds c.args.disk.now) c.look_at.ensures.value

pub returns-clause-failed : goal.returns-clause-failed
returns-clause-failed g c = few_read c.look_at.result (g.D.Disk.reads c.args.disk.now) (g.D.Disk.reads c.look_at.new.disk) c.look_at.ensures.failed
