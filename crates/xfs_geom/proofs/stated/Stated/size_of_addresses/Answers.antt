use Rattle.std.proofs.Common.{◌≤◌, ◌^◌, arith}
use Rattle.std.proofs.Math.Pow.{pow_mono}
use Rattle.xfs_geom.proofs.stated.Stated.size_of_addresses.Goals as goal

pub returns-clause-short : goal.returns-clause-short
returns-clause-short c =
    let most : 2 ^ c.args.self.now.agblklog ≤ 2 ^ 26 = pow_mono c.requires in
    omega arith
