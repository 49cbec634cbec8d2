use Rattle.std.proofs.Common.{◌*◌, length}
use Rattle.xfs_geom.specs.Volumes.{volume_of}
use Rattle.xfs_space.proofs.OwnedRuns.{group_next, groups_end, groups_next, groups_start, of_volume, small_start}
use Rattle.xfs_space.proofs.owned_groups.push_groups.Goals as goal

pub loop-ag-preserved : goal.loop-ag-preserved
loop-ag-preserved c = record {
  same = group_next c.args.g.now.agblocks c.loop-ag.ag c.args.groups.now c.index-groups-ag.result c.start_of_group.result c.loop-ag.runs.items c.push_group.new.runs.items _ c.loop-ag-test.true
      c.index-groups-ag.is c.start_of_group.ensures.value c.loop-ag.invariant.same c.in_ok-push_group.ensures;
  groups = (groups_next (volume_of c.args.g.now) c.loop-ag.ag c.args.groups.now c.loop-ag.ag c.index-groups-ag.result c.loop-ag-test.true c.index-groups-ag.is c.loop-ag.invariant.groups).1;
}

pub loop-ag-init : goal.loop-ag-init
loop-ag-init c = record { same = groups_start c.args.g.now.agblocks c.args.groups.now c.args.runs.now.items; groups = c.requires.groups }

pub start_of_group-requires : goal.start_of_group-requires
start_of_group-requires c = of_volume c.loop-ag.ag (length c.args.groups.now) c.args.g.now.agcount c.loop-ag-test.true c.requires.count

pub push_group-requires-clause-base : goal.push_group-requires-clause-base
push_group-requires-clause-base c = small_start c.start_of_group.result c.args.g.now.dblocks c.start_of_group.ensures.inside c.args.g.now.shape.groups.small

pub push_group-requires-clause-list : goal.push_group-requires-clause-list
push_group-requires-clause-list c =
    (groups_next (volume_of c.args.g.now) c.loop-ag.ag c.args.groups.now c.loop-ag.ag c.index-groups-ag.result c.loop-ag-test.true c.index-groups-ag.is c.loop-ag.invariant.groups).0.count

pub push_group-requires-clause-trees : goal.push_group-requires-clause-trees
push_group-requires-clause-trees c =
    (groups_next (volume_of c.args.g.now) c.loop-ag.ag c.args.groups.now c.loop-ag.ag c.index-groups-ag.result c.loop-ag-test.true c.index-groups-ag.is c.loop-ag.invariant.groups).0.trees

pub returns : goal.returns
returns c = groups_end c.args.g.now.agblocks (c.loop-ag.ag * c.args.g.now.agblocks) c.loop-ag.ag c.args.groups.now c.loop-ag.runs.items _ c.loop-ag-test.false c.loop-ag.invariant.same
