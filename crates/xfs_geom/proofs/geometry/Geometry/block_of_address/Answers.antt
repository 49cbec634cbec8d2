use Rattle.std.proofs.Common.{◌<◌, ◌%◌, arith, refl}
use Rattle.xfs_geom.proofs.Addresses.{address_back}
use Rattle.xfs_geom.specs.Volumes.{volume_of}
use Rattle.xfs_geom.proofs.geometry.Geometry.block_of_address.Goals as goal

pub returns-clause-inverse : goal.returns-clause-inverse
returns-clause-inverse c =
    let size = c.size_of_addresses-size.result in
    let short : c.args.address % c.size_of_addresses-size.result < c.args.self.now.agblocks = omega arith in
    rw c.start_of_group.ensures.value
    (address_back (volume_of c.args.self.now) _ _ c.args.address c.size_of_addresses-size.result c.size_of_addresses-size.ensures.value refl refl short)
