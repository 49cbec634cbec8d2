use Rattle.std.proofs.Common.{arith}
use Rattle.xfs_geom.specs.Volumes.{volume_of}
use Rattle.xfs_render.proofs.ObjectSeals.{sealed_data}
use Rattle.xfs_render.proofs.object_seals.seal_data.Goals as goal

pub returns : goal.returns
returns c =
    let h = c.state_data.ensures in
    let s = c.seal_block.ensures in
    sealed_data (volume_of c.args.g.now) c.args.at.now c.args.block.now c.state_data.new.block c.seal_block.new.block (omega (arith, c.seal_block.auto.block, c.state_data.auto.block))
    h.place h.lsn h.uuid h.owner h.keeps h.others s.keeps s.others s.sealed
