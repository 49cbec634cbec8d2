use Rattle.std.proofs.Common.{ℕ, ◌+◌, ap, refl}
use Rattle.xfs_geom.specs.Groups.{block_of_address}
use Rattle.xfs_changes.proofs.PushedRange.{pushed_next}
use Rattle.xfs_changes.proofs.replaced.push_extent.Goals as goal

pub loop-i-preserved : goal.loop-i-preserved
loop-i-preserved c =
    let g = c.args.g.now in
    let i = c.loop-i.i in
    record {
      pushed = pushed_next (block_of_address g.agblocks g.agblklog c.args.extent.now.start) i (c.block_of-start.result + i) c.args.blocks.now.items c.loop-i.blocks.items c.push.new.self.items
          (ap (λ (n : ℕ). n + i) c.block_of-start.ensures) c.loop-i.invariant.pushed c.in_ok-push.ensures.items;
      ends = refl;
    }
