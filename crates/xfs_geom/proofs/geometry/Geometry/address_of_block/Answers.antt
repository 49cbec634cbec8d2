use Rattle.std.proofs.Common.{ℕ, ◌+◌, ◌*◌, ◌/◌, ◌%◌, ◌∙◌, ap}
use Rattle.xfs_geom.proofs.Addresses.{address_low, group_fits, address_fits, block_back}
use Rattle.xfs_geom.specs.Conversions.{address_of, block_at}
use Rattle.xfs_geom.specs.Volumes.{volume_of}
use Rattle.xfs_geom.proofs.geometry.Geometry.address_of_block.Goals as goal

pub overflow_mul-result : goal.overflow_mul-result
overflow_mul-result c = group_fits c.args.block c.args.self.now.agblocks _ c.args.self.now.dblocks c.requires c.args.self.now.shape.groups.small c.size_of_addresses.ensures.least

pub overflow_add-result : goal.overflow_add-result
overflow_add-result c = address_fits c.args.block c.args.self.now.agblocks _ c.args.self.now.dblocks c.requires c.args.self.now.shape.groups.small c.size_of_addresses.ensures.least

pub returns : goal.returns
unfolding address_of
returns c =
    let block = c.args.block in
    let w = c.args.self.now.agblocks in
    let groups = c.args.self.now.shape.groups in
    let value = ap (λ (k : ℕ). block / w * k + block % w) c.size_of_addresses.ensures.value in
    record {
      value = value;
      inverse = ap (block_at (volume_of c.args.self.now)) value
          ∙ block_back (volume_of c.args.self.now) block groups.large groups.covered c.args.self.now.shape.addresses.enough c.requires;
      low = address_low block w c.size_of_addresses.result c.args.self.now.dblocks c.requires groups.small c.size_of_addresses.ensures.least;
    }
