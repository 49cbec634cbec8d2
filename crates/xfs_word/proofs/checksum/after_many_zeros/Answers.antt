use Rattle.std.proofs.Common.{arith}
use Rattle.xfs_word.proofs.Register.{four}
use Rattle.xfs_word.proofs.checksum.after_many_zeros.Goals as goal

pub returns : goal.returns
returns c =
    four 480 c.args.register c.far_entry-4.result c.far_entry-3.result c.far_entry-2.result c.far_entry.result (omega arith)
    c.far_entry-4.ensures c.far_entry-3.ensures c.far_entry-2.ensures c.far_entry.ensures
