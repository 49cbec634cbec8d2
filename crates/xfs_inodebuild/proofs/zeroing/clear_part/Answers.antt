use Rattle.std.proofs.Common.{◌≤◌, arith}
use Rattle.xfs_inodebuild.proofs.Zeros.{zero_put}
use Rattle.xfs_inodebuild.proofs.zeroing.clear_part.Goals as goal

pub returns-clause-zero : goal.returns-clause-zero
returns-clause-zero c =
    let inside : c.args.width ≤ 512 = omega (arith, c.requires.inside) in
    zero_put c.put_part.new.bytes c.args.at c.args.width 512 inside c.put_part.ensures.put
