use Rattle.xfs_empty.proofs.Shapes.{new_shape}
use Rattle.xfs_empty.proofs.sizes.geometry.Goals as goal

pub invariant_of-result : goal.invariant_of-result
invariant_of-result c =
    record {
      shape = new_shape c.args.groups.now c.args.dblocks c.bits_of.result c.args.logblocks c.requires.groups c.bits_of.ensures c.requires.log;
    }
