use Rattle.std.proofs.Common.{arith, sym, subst, ◌∙◌}
use Rattle.xfs_geom.specs.Volumes.{volume_of}
use Rattle.xfs_volume.specs.declared.groups.GroupRec.{GroupRec}
use Rattle.xfs_laws.specs.Counting.{HasChunks, group_chunks}
use Rattle.xfs_laws.proofs.Groups.{group_broken, group_kept, groups_kept}
use Rattle.xfs_laws.proofs.chunks.check_inodes.Goals as goal

pub check_group-requires-clause-chunks : goal.check_group-requires-clause-chunks
check_group-requires-clause-chunks c =
    let P : GroupRec → Type 0 = HasChunks in
    subst P (sym c.group-item.is) (c.requires.chunks c.loop-group.group-index c.group-item.result c.loop-group-test.true)

pub returns-in-Some : goal.returns-in-Some
returns-in-Some c =
    group_broken (group_chunks (volume_of c.args.g.now) c.args.files.now) c.args.groups.now c.loop-group.group-index c.loop-group.ag
    c.loop-group.invariant.left c.group-item.result c.in-Some.law c.loop-group-test.true c.group-item.is (sym c.check_group.ensures ∙ c.in-Some.is)

pub loop-group-preserved : goal.loop-group-preserved
loop-group-preserved c = record {
  number = omega (arith, c.loop-group.invariant.number);
  left =
      group_kept (group_chunks (volume_of c.args.g.now) c.args.files.now) c.args.groups.now c.loop-group.group-index c.loop-group.ag
      c.loop-group.invariant.left c.group-item.result c.loop-group-test.true c.group-item.is (sym c.check_group.ensures ∙ c.in_default.is);
}

pub returns : goal.returns
returns c =
    groups_kept (group_chunks (volume_of c.args.g.now) c.args.files.now) c.args.groups.now c.loop-group.group-index c.loop-group.ag
    c.loop-group.invariant.left c.loop-group-test.false
