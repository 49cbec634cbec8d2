use Rattle.std.proofs.Common.{arith, sym, ap, ◌∙◌}
use Rattle.xfs_volume.specs.Laws.{first_broken}
use Rattle.xfs_laws.specs.Counting.{group_counts}
use Rattle.xfs_laws.proofs.Groups.{group_broken, group_kept, groups_kept}
use Rattle.xfs_laws.proofs.counters.check_groups.Goals as goal

pub returns-in-Some : goal.returns-in-Some
returns-in-Some c =
    group_broken group_counts c.args.groups.now c.loop-group.group-index c.loop-group.ag c.loop-group.invariant.left c.group-item.result c.in-Some.law
    c.loop-group-test.true c.group-item.is (ap first_broken (sym c.group_counts.ensures) ∙ sym c.first_broken.ensures ∙ c.in-Some.is)

pub loop-group-preserved : goal.loop-group-preserved
loop-group-preserved c = record {
  number = omega (arith, c.loop-group.invariant.number);
  left =
      group_kept group_counts c.args.groups.now c.loop-group.group-index c.loop-group.ag c.loop-group.invariant.left c.group-item.result
      c.loop-group-test.true c.group-item.is (ap first_broken (sym c.group_counts.ensures) ∙ sym c.first_broken.ensures ∙ c.in_default.is);
}

pub returns : goal.returns
returns c =
    groups_kept group_counts c.args.groups.now c.loop-group.group-index c.loop-group.ag c.loop-group.invariant.left c.loop-group-test.false
