use Rattle.std.proofs.Common.{ℕ, ◌+◌, ◌<◌, lt_of_lt_of_le, refl, sym, ap, ◌∙◌, subst, true≢false}
use Rattle.xfs_geom.specs.Volumes.{volume_of}
use Rattle.xfs_laws.proofs.Tests.{groups_end, groups_fail, groups_more}
use Rattle.xfs_laws.proofs.parts.are_groups.Goals as goal

pub is_group-requires : goal.is_group-requires
is_group-requires c =
    subst (λ (n : ℕ). n < c.args.g.now.agcount) (sym c.loop-group.invariant.number) (lt_of_lt_of_le c.loop-group-test.true c.requires)

pub loop-group-init : goal.loop-group-init
loop-group-init c = record { number = refl; left = (λ w. w, λ w. w) }

pub loop-group-preserved : goal.loop-group-preserved
loop-group-preserved c = record {
  number = ap (λ (n : ℕ). n + 1) c.loop-group.invariant.number;
  left =
      groups_more (volume_of c.args.g.now) c.args.groups.now c.loop-group.group-index c.loop-group.ag c.loop-group.invariant.left c.group-item.result
      c.loop-group-test.true c.group-item.is (c.is_group.ensures.0 c.if-not-is_group.false);
}

pub returns-then-not-is_group : goal.returns-then-not-is_group
returns-then-not-is_group c =
    groups_fail (volume_of c.args.g.now) c.args.groups.now c.loop-group.group-index c.loop-group.ag c.loop-group.invariant.left c.group-item.result
    c.loop-group-test.true c.group-item.is (λ lawful. true≢false (sym (c.is_group.ensures.1 lawful) ∙ c.if-not-is_group.true))

pub returns : goal.returns
returns c =
    groups_end (volume_of c.args.g.now) c.args.groups.now c.loop-group.group-index c.loop-group.ag c.loop-group.invariant.left
    c.loop-group-test.false
