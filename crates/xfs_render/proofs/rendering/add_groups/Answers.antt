use Rattle.std.proofs.Common.{◌≡◌, ◌≤◌, ◌<◌, ℕ, List, arith, sym, subst}
use Rattle.std.proofs.lemmas.Result.{IfOk-from_err}
use borrow.Author.Count.{falls}
use Rattle.xfs_geom.specs.declared.records.InoRec.{InoRec}
use Rattle.xfs_place.specs.declared.placed.GroupPlaced.{GroupPlaced}
use Rattle.xfs_render.specs.Groups.{IsSoundGroup}
use Rattle.xfs_render.specs.Rendering.{AddsGroups, volume, wanted_inodes}
use Rattle.xfs_render.proofs.RenderSteps.{groups_more, groups_none}
use Rattle.xfs_render.proofs.rendering.add_groups.Goals as goal

pub wanted_inodes-requires : goal.wanted_inodes-requires
wanted_inodes-requires c = subst (λ (n : ℕ). c.loop-ag.ag < n) (sym c.requires.ready.inodes) c.loop-ag-test.true

pub group_placed-requires : goal.group_placed-requires
group_placed-requires c = subst (λ (n : ℕ). c.loop-ag.ag < n) (sym c.requires.ready.groups) c.loop-ag-test.true

pub add_trees-requires-clause-group : goal.add_trees-requires-clause-group
add_trees-requires-clause-group c = c.loop-ag-test.true

pub add_trees-requires-clause-sound : goal.add_trees-requires-clause-sound
add_trees-requires-clause-sound c =
    let w = c.args.wanted.now in
    let ag = c.loop-ag.ag in
    subst (λ (x : List InoRec). IsSoundGroup (volume w) ag x c.group_placed.result.now) (sym c.wanted_inodes.ensures)
    (subst (λ (x : GroupPlaced). IsSoundGroup (volume w) ag (wanted_inodes w ag) x) (sym c.group_placed.ensures) (c.requires.ready.sound ag c.loop-ag-test.true))

pub add_trees-requires-clause-draft : goal.add_trees-requires-clause-draft
add_trees-requires-clause-draft c = c.loop-ag.invariant.groups.adds.whole

pub loop-ag-init : goal.loop-ag-init
loop-ag-init c = record { groups = groups_none c.args.wanted.now c.args.placed.now c.args.bytes.now c.args.bytes.now.sector c.args.draft.now c.requires.draft }

pub loop-ag-preserved : goal.loop-ag-preserved
loop-ag-preserved c = record {
  groups = groups_more c.args.wanted.now c.args.placed.now c.args.bytes.now c.args.bytes.now.sector c.loop-ag.ag c.args.draft.now c.loop-ag.draft c.add_trees.new.draft
      c.wanted_inodes.result.now c.group_placed.result.now (subst (λ (n : ℕ). c.loop-ag.ag < n) (sym c.requires.ready.groups) c.loop-ag-test.true)
      c.wanted_inodes.ensures c.group_placed.ensures c.loop-ag.invariant.groups c.in_ok-add_trees.ensures;
}

pub loop-ag-smaller : goal.loop-ag-smaller
loop-ag-smaller c = falls c.args.wanted.now.geometry.agcount c.loop-ag.ag c.loop-ag-test.true

pub returns-in_err-add_trees : goal.returns-in_err-add_trees
returns-in_err-add_trees c = IfOk-from_err c.from_residual.result _ c.from_residual.ensures.0

pub returns : goal.returns
returns c =
    let all : c.loop-ag.ag ≡ c.args.wanted.now.geometry.agcount = omega (arith, c.loop-ag-test.false, c.loop-ag.auto.ag-end) in
    subst (λ (n : ℕ). AddsGroups c.args.wanted.now c.args.placed.now n c.args.draft.now c.loop-ag.draft) all c.loop-ag.invariant.groups
