use Rattle.std.proofs.Common.{arith}
use Rattle.xfs_naming.specs.Private.Kinds.{kind_of}
use Rattle.xfs_naming.proofs.Pushed.{pushed, pushed_all}
use Rattle.xfs_naming.proofs.kinds.kinds_of.Goals as goal

pub loop-file-preserved : goal.loop-file-preserved
loop-file-preserved c =
    pushed kind_of c.args.files.now c.loop-file.file-index c.file-item.result c.kind_of.result c.loop-file.kinds.items c.push.new.self.items
    c.loop-file-test.true c.file-item.is c.kind_of.ensures c.in_ok-push.ensures.items c.loop-file.invariant

pub returns : goal.returns
returns c = pushed_all kind_of c.args.files.now c.loop-file.file-index c.loop-file.kinds.items (omega arith) c.loop-file.invariant
