use Rattle.std.proofs.Common.{ℕ, subst, arith}
use Rattle.xfs_geom.specs.Volumes.{volume_of}
use Rattle.xfs_word.specs.declared.kinds.SealKind.TheVariants.{Index}
use Rattle.xfs_render.specs.Objects.{IsSealedBlock, object_seal}
use Rattle.xfs_render.proofs.ObjectSeals.{sealed_index}
use Rattle.xfs_render.proofs.object_seals.seal_index.Goals as goal

pub returns : goal.returns
returns c =
    let h = c.state_index.ensures in
    let s = c.seal_block.ensures in
    let at = c.args.at.now in
    let v = volume_of c.args.g.now in
    subst (λ (magic : ℕ). IsSealedBlock (object_seal v (Index magic) at) c.args.block.now c.seal_block.new.block) c.get16-magic.ensures
    (sealed_index v at c.args.block.now c.state_index.new.block c.seal_block.new.block (omega (arith, c.seal_block.auto.block, c.state_index.auto.block)) c.get16-magic.result
    h.place h.lsn h.uuid h.owner h.keeps h.others s.keeps s.others s.sealed)
