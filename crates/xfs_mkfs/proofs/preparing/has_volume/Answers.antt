use Rattle.xfs_mkfs.proofs.Failing.{looks_by_result, not_looked, reads_by_result}
use Rattle.xfs_mkfs.proofs.preparing.has_volume.Goals as goal

pub returns-then-force-clause-looked : goal.returns-then-force-clause-looked
returns-then-force-clause-looked g c = not_looked c.args.force (g.D.Disk.reads c.args.disk.now) c.if-force.true

pub returns-clause-looked : goal.returns-clause-looked
returns-clause-looked g c =
    looks_by_result c.args.force (g.D.Disk.reads c.args.disk.now) (g.D.Disk.reads c.is_marked.new.disk) c.is_marked.result c.if-force.false c.is_marked.ensures.counted

pub returns-clause-failed : goal.returns-clause-failed
returns-clause-failed g c =
    reads_by_result c.args.force (g.D.Disk.reads c.args.disk.now) (g.D.Disk.reads c.is_marked.new.disk) c.is_marked.result c.if-force.false c.is_marked.ensures.failed
