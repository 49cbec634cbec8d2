use Rattle.std.proofs.Common.{◌*◌, ◌∙◌}
use Rattle.xfs_treebuild.proofs.PackingReady.{ready_long}
use Rattle.xfs_treebuild.proofs.heads.put_long.Goals as goal

pub seal_block-requires-clause-ready : goal.seal_block-requires-clause-ready
seal_block-requires-clause-ready c =
    let h = c.state_long.ensures in
    ready_long (8 * c.args.header.now.place) c.args.header.now.owner c.args.uuid.now c.state_long.new.block (h.magic ∙ c.requires.magic) h.uuid h.place h.owner h.lsn
