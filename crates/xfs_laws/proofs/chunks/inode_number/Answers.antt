use Rattle.std.proofs.Common.{lt_of_lt_of_le, le_of_lt}
use Rattle.xfs_laws.proofs.Addresses.{eight_fit, number_is, product_fits, sum_fits}
use Rattle.xfs_laws.proofs.chunks.inode_number.Goals as goal

pub overflow_mul-result : goal.overflow_mul-result
overflow_mul-result c =
    let g = c.args.g.now in
    product_fits c.args.ag g.agblklog (le_of_lt (lt_of_lt_of_le c.requires.group g.shape.groups.few)) g.shape.addresses.short

pub overflow_mul-result-2 : goal.overflow_mul-result-2
overflow_mul-result-2 c =
    let g = c.args.g.now in
    eight_fit c.args.ag g.agblklog (le_of_lt (lt_of_lt_of_le c.requires.group g.shape.groups.few)) g.shape.addresses.short

pub overflow_add-result : goal.overflow_add-result
overflow_add-result c =
    let g = c.args.g.now in
    sum_fits c.args.ag g.agblklog (le_of_lt (lt_of_lt_of_le c.requires.group g.shape.groups.few)) g.shape.addresses.short c.args.agino c.requires.inside

pub returns : goal.returns
returns c =
    let g = c.args.g.now in
    number_is c.args.ag g.agblklog (le_of_lt (lt_of_lt_of_le c.requires.group g.shape.groups.few)) g.shape.addresses.short c.args.agino
