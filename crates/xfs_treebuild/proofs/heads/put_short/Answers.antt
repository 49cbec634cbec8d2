use Rattle.std.proofs.Common.{◌*◌}
use Rattle.xfs_treebuild.proofs.PackingReady.{ready_short}
use Rattle.xfs_treebuild.proofs.heads.put_short.Goals as goal

pub seal_block-requires-clause-ready : goal.seal_block-requires-clause-ready
seal_block-requires-clause-ready c =
    let h = c.state_short.ensures in
    ready_short c.args.header.now.magic (8 * c.args.header.now.place) c.args.header.now.owner c.args.uuid.now c.state_short.new.block h.magic h.uuid h.place h.owner h.lsn
