use Rattle.std.proofs.Common.{arith, sym, ◌∙◌}
use Rattle.xfs_laws.specs.Counting.{group_chains}
use Rattle.xfs_laws.proofs.Groups.{group_broken, group_kept, groups_kept}
use Rattle.xfs_laws.proofs.log.check_chains.Goals as goal

pub returns-in-Some : goal.returns-in-Some
returns-in-Some c =
    group_broken group_chains c.args.groups.now c.loop-group.group-index c.loop-group.ag c.loop-group.invariant.left c.group-item.result c.in-Some.law
    c.loop-group-test.true c.group-item.is (sym c.check_group.ensures ∙ c.in-Some.is)

pub loop-group-preserved : goal.loop-group-preserved
loop-group-preserved c = record {
  number = omega (arith, c.loop-group.invariant.number);
  left =
      group_kept group_chains c.args.groups.now c.loop-group.group-index c.loop-group.ag c.loop-group.invariant.left c.group-item.result
      c.loop-group-test.true c.group-item.is (sym c.check_group.ensures ∙ c.in_default.is);
}

pub returns : goal.returns
returns c =
    groups_kept group_chains c.args.groups.now c.loop-group.group-index c.loop-group.ag c.loop-group.invariant.left c.loop-group-test.false
