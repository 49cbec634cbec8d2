use Rattle.std.proofs.Common.{◌<◌, arith}
use Rattle.xfs_word.proofs.Register.{one}
use Rattle.xfs_word.proofs.checksum.after_one.Goals as goal

pub returns : goal.returns
returns c =
    let byte : c.args.byte < 256 = omega arith in
    one c.args.register c.args.byte c.entry.result byte c.entry.ensures
