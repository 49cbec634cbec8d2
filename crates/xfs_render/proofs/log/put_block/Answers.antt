use Rattle.std.proofs.Common.{ℕ, ◌+◌, ◌*◌, List}
use Rattle.xfs_render.specs.Logs.{IsBlankAt}
use Rattle.xfs_render.proofs.Sectors.{parts_more}
use Rattle.xfs_render.proofs.log.put_block.Goals as goal

pub loop-k-preserved : goal.loop-k-preserved
loop-k-preserved c =
    let P : ℕ → List ℕ → Type 0 = λ k sector. IsBlankAt c.args.cycle c.args.uuid.now (8 * c.args.number + k) sector in
    record { each = parts_more P c.loop-k.block c.put_sector.new.block c.loop-k.k c.loop-k.invariant.each c.put_sector.ensures.keeps c.put_sector.ensures.blank }
