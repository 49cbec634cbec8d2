use Rattle.std.proofs.Common.{arith}
use Rattle.xfs_geom.proofs.Bounds.{last_value, last_least, last_most, last_inside, last_fits, other_value, other_inside}
use Rattle.xfs_geom.proofs.geometry.Geometry.group_length.Goals as goal

pub overflow_cast-result : goal.overflow_cast-result
overflow_cast-result c = last_fits _ _ c.args.self.now.shape.groups.small

pub returns-then-ag-self : goal.returns-then-ag-self
returns-then-ag-self c =
    let groups = c.args.self.now.shape.groups in
    let start = c.start_of_group.ensures in
    record {
      value = last_value _ _ _ c.args.ag _ c.if-ag-self.true start.value;
      least = last_least _ _ _ c.args.ag _ c.if-ag-self.true start.value groups.last;
      most = last_most _ _ _ c.args.ag _ c.if-ag-self.true start.value groups.covered;
      inside = last_inside _ _ c.args.ag _ start.value start.inside;
    }

pub returns-else-ag-self : goal.returns-else-ag-self
returns-else-ag-self c =
    let groups = c.args.self.now.shape.groups in
    record {
      value = other_value _ _ _ c.args.ag c.if-ag-self.false;
      least = omega (arith, groups.large);
      most = omega arith;
      inside = other_inside _ _ _ c.args.ag c.requires c.if-ag-self.false groups.last;
    }
