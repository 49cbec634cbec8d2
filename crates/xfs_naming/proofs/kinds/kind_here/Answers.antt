use Rattle.xfs_naming.proofs.FileKinds.{kind_there}
use Rattle.xfs_naming.proofs.kinds.kind_here.Goals as goal

pub returns : goal.returns
returns c =
    let n = c.args.names.now in
    kind_there n.files.now c.requires.ascend n.kinds.now c.requires.kinds c.args.place c.args.ino _ c.if-place-names.false c.if-kind-ino.false
